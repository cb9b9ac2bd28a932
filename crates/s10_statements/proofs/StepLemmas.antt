-- Steps that follow one another in a transaction.
use Rattle.std.proofs.Common.{◌≡◌, ◌⊎◌, inl, inr, Result, Ok, OnOk, Bool, true, refl, ◌∙◌, arith}
use Rattle.std.proofs.lemmas.Result.{on_ok_weaker, err_from_is_err_and}
use Rattle.std.specs.Borrow.{MutBor}
use Rattle.std.specs.Prelude.{⊤, IsErrAnd, OnOk}
use Rattle.sqlite_trees.specs.declared.store.Store.{Ghosts}
use Rattle.sqlite.specs.declared.error.Error.{Error}
use Rattle.sqlite.specs.Held.{Held, state}
use Rattle.sqlite.specs.Effect.{Database}
use Rattle.sqlite.specs.State.{State, KeepsCommit, Survives, Shows, IsUnchanged, IsRolledBack}
use Rattle.sqlite.proofs.InsideLemmas.{keeps_then}
use Rattle.sqlite.proofs.StateLemmas.{survives_then}
use Rattle.s10_statements.specs.ConnectionState.{IsClean, IsOpen, IsInTransaction}
use Rattle.s10_statements.specs.Steps.{IsStep}

shown_keeps : {old new : State} {now : Database} {mode : Bool}
    → Shows old new now old.committed mode → KeepsCommit old new
shown_keeps it = record {
  was_open = λ opened. it.was_open;
  committed = λ opened. it.committed_is;
}

failed_keeps : {Fails Ends Is : Type 0} {old new : State}
    → (Fails × (IsUnchanged old new ⊎ IsRolledBack old new)) ⊎ (Ends × Is × IsUnchanged old new)
    → KeepsCommit old new
failed_keeps (inl (fails, inl same)) = shown_keeps same.0
failed_keeps (inl (fails, inr back)) = record {
  was_open = back.was_open;
  committed = λ opened. (back.undone opened).1;
}
failed_keeps (inr it) = shown_keeps it.2.0

-- A step that succeeded.
abbrev pub Succeeds : {S : Type 0} → Ghosts S → MutBor (Held S) → MutBor (Held S) → Type 0 → Type 0
Succeeds g old new Done = IsStep {T = ⊤} g old new (Ok tt) Done

-- No step.
pub step_none : {S P : Type 0} (g : Ghosts S) (a : MutBor (Held S)) → P → Succeeds g a a P
step_none g a p = record {
  same_reference = refl;
  done = λ clean inside. (inside, p);
  kept = λ clean inside. record { was_open = λ h. h; committed = λ _. refl };
  survives = record {
    clean = omega arith;
    shield = λ h. h;
    counts = omega arith;
    limit = refl;
    closes = λ _ h. inl h;
    crash = λ _ db h. inl h;
  };
}

module _ {S T : Type 0} {g : Ghosts S} {a b : MutBor (Held S)} {P Q : Type 0} where
  pub step_weaker : {r : Result T Error} → (P → Q) → IsStep g a b r P → IsStep g a b r Q
  step_weaker {r} f it = record {
    same_reference = it.same_reference;
    done = λ clean inside. on_ok_weaker r (λ p. (p.0, f p.1)) (it.done clean inside);
    kept = it.kept;
    survives = it.survives;
  }

  -- A step after which the function fails.
  pub step_err : {U : Type 0} {r : Result T Error} (Why : Error → Type 0) (out : Result U Error)
      → IsErrAnd out Why → IsStep g a b r P → IsStep g a b out Q
  step_err Why out is it = record {
    same_reference = it.same_reference;
    done = λ clean inside. rw (err_from_is_err_and out is).1 tt;
    kept = it.kept;
    survives = it.survives;
  }

module _ {S T : Type 0} {g : Ghosts S} {a b : MutBor (Held S)} (same : b.ghost_name ≡ a.ghost_name)
    (survives : Survives (state g a.now) (state g b.now) (λ _. ⊥)) where
  -- A statement that ran.
  pub ran : {r : Result T Error} {Did More Done : Type 0} → (IsClean g b.now → IsInTransaction g
      a.now
      → Did × Shows (state g a.now) (state g b.now) (state g b.now).now (state g a.now).committed
      true
      × More) → (IsOpen g a.now → Did → OnOk r Done) → IsStep g a b r Done
  ran {r} did does = record {
    same_reference = same;
    done = λ clean inside. let it = did clean inside in
        on_ok_weaker r (λ d. (it.1.mode, d)) (does it.1.was_open it.0);
    kept = λ clean inside. shown_keeps (did clean inside).1;
    survives = survives;
  }

  -- A statement that failed in one of the ways of `ExecutesInside`.
  pub not_ran : {Fails Ends Is Done : Type 0} (Why : Error → Type 0) (out : Result T Error)
      → IsErrAnd out Why → (IsClean g b.now → IsInTransaction g a.now
      → (Fails × (IsUnchanged (state g a.now) (state g b.now)
      ⊎ IsRolledBack (state g a.now) (state g b.now))) ⊎ (Ends × Is
      × IsUnchanged (state g a.now) (state g b.now))) → IsStep g a b out Done
  not_ran Why out is failed = record {
    same_reference = same;
    done = λ clean inside. rw (err_from_is_err_and out is).1 tt;
    kept = λ clean inside. failed_keeps (failed clean inside);
    survives = survives;
  }

module _ {S T U : Type 0} {g : Ghosts S} {a b c : MutBor (Held S)} {x : T} {r : Result U Error}
    {P Q R : Type 0} (first : IsStep g a b (Ok x) P) (second : IsStep g b c r Q) where
  -- One step after another that succeeded. A connection that is open after the first was before.
  pub step_after : ((IsOpen g b.now → IsOpen g a.now) → P → Q → R) → IsStep g a c r R
  step_after join =
      let mid : IsClean g c.now → IsClean g b.now = λ clean. omega (arith, second.survives.clean) in
      record {
        same_reference = second.same_reference ∙ first.same_reference;
        done = λ clean inside.
            let p = first.done (mid clean) inside in
            on_ok_weaker r (λ q. (q.0, join (first.kept (mid clean) inside).was_open p.1 q.1))
            (second.done clean p.0);
        kept = λ clean inside. keeps_then (state g a.now) (state g b.now) (state g c.now)
            (first.kept (mid clean) inside) (second.kept clean (first.done (mid clean) inside).0);
        survives = survives_then (state g a.now) (state g b.now) (state g c.now) _ _ _
            (λ _ db none. none) (λ _ db none. none) first.survives second.survives;
      }

  pub step_then : (P → Q → R) → IsStep g a c r R
  step_then join = step_after (λ _ p q. join p q)
