-- What the compilation of a statement leaves of a connection.
use Rattle.std.proofs.Common.{◌≡◌, ◌⊎◌, inl, inr, List, [], ℕ, Result, Ok, Err, IfOk, IfErr, IsTrue}
use Rattle.std.proofs.Common.{false, sym, ◌∙◌, arith}
use Rattle.sqlite_value.specs.Order.{Row}
use Rattle.sqlite_trees.specs.declared.store.Store.{Ghosts}
use Rattle.sqlite.specs.declared.error.Error.{Error}
use Rattle.sqlite.specs.Held.{Held, state}
use Rattle.sqlite.specs.State.{State, HasCleanDisk, Survives, IsUnchanged, IsRolledBack, IsNotRun}
use Rattle.s10_statements.specs.Statements.{LeavesTables}

not_run : (old new : State) (sql : List ℕ) (params : Row) (e : Error)
    → IsNotRun old new sql params e → IsUnchanged old new ⊎ IsRolledBack old new
unfolding IsNotRun
not_run old new sql params e (inl h) = inl h.1
not_run old new sql params e (inr f) = inr f.3

compiled : {T : Type 0} (old new : State) (sql : List ℕ) (P : T → Type 0) (r : Result T Error)
    → IfOk r (λ s. P s × IsUnchanged old new)
    → IfErr r (λ e. (params : Row) → IsNotRun old new sql params e)
    → IsUnchanged old new ⊎ IsRolledBack old new
compiled old new sql P (Ok s) ok err = inl ok.1
compiled old new sql P (Err e) ok err = not_run old new sql [] e (err [])

was_open : (old new : State) → IsUnchanged old new ⊎ IsRolledBack old new → IsTrue new.is_open
    → IsTrue old.is_open
was_open old new (inl same) opened = same.0.was_open
was_open old new (inr undone) opened = undone.was_open opened

same_now : (old new : State) → (IsTrue old.is_open → old.committed ≡ old.now)
    → IsUnchanged old new ⊎ IsRolledBack old new → IsTrue new.is_open → new.now ≡ old.now
same_now old new settled (inl same) opened = same.0.now_is
same_now old new settled (inr undone) opened = (undone.undone opened).0
    ∙ settled (undone.was_open opened)

still_settled : (old new : State) → (IsTrue old.is_open → old.committed ≡ old.now)
    → IsUnchanged old new ⊎ IsRolledBack old new → IsTrue new.is_open → new.committed ≡ new.now
still_settled old new settled (inl same) opened = same.0.committed_is
    ∙ settled same.0.was_open ∙ sym same.0.now_is
still_settled old new settled (inr undone) opened = (undone.undone opened).1
    ∙ sym (undone.undone opened).0

-- A statement that was compiled leaves the tables as they were.
pub compiled_leaves : {S T : Type 0} (g : Ghosts S) (old new : Held S) (sql : List ℕ)
    (P : T → Type 0) (r : Result T Error)
    → Survives (state g old) (state g new) (λ _. ⊥)
    → (old.in_transaction ≡ false → new.in_transaction ≡ false)
    → (HasCleanDisk (state g new) → IfOk r (λ s. P s × IsUnchanged (state g old) (state g new)))
    → (HasCleanDisk (state g new) → IfErr r (λ e. (params : Row)
    → IsNotRun (state g old) (state g new) sql params e)) → LeavesTables g old new
compiled_leaves g old new sql P r survives mode ok err =
    let before : HasCleanDisk (state g new) → HasCleanDisk (state g old) =
    λ clean. omega (arith, survives.clean, clean) in
    let after = λ (clean : HasCleanDisk (state g new)). compiled (state g old) (state g new) sql P r
    (ok clean) (err clean) in
    record {
      clean = survives.clean;
      was_open = λ clean opened. was_open (state g old) (state g new) (after clean) opened;
      now = λ clean opened settled fits. same_now (state g old) (state g new)
          (settled.committed (before clean)) (after clean) opened;
      settled = λ settled. record {
        idle = mode settled.idle;
        committed = λ clean opened. still_settled (state g old) (state g new)
            (settled.committed (before clean)) (after clean) opened;
      };
    }
