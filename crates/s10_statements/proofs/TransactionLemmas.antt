-- What a transaction leaves, once it has ended.
use Rattle.std.proofs.Common.{◌≡◌, ◌⊎◌, inl, inr, [], IsTrue, false, true, Result, Ok, Err, OnOk}
use Rattle.std.proofs.Common.{IfErr, OnErr, refl, sym, ap, subst, ◌∙◌, arith}
use Rattle.std.proofs.lemmas.Result.{on_ok_weaker, on_err_weaker, err_from_is_err_and}
use Rattle.std.specs.Borrow.{MutBor}
use Rattle.std.specs.Prelude.{IsErrAnd}
use Rattle.sqlite_trees.specs.declared.store.Store.{Ghosts}
use Rattle.sqlite_trees.specs.Tree.{Trees}
use Rattle.sqlite.specs.declared.error.Error.{Error}
use Rattle.sqlite.specs.Held.{Held, state}
use Rattle.sqlite.specs.State.{State, Shows, KeepsCounts, IsRolledBack, Survives}
use Rattle.sqlite.specs.Steps.{FailsToCommit}
use Rattle.s10_statements.specs.ConnectionState.{IsQuiescent, IsClean, IsOpen, StaysUnclean}
use Rattle.s10_statements.specs.Steps.{IsStep}
use Rattle.s10_statements.proofs.CrashLemmas.{spared}

-- A transaction in which this was done has ended. If it was committed, the connection shows what
-- the transaction did, and otherwise what it did before.
pub record IsEnded {S U : Type 0} (g : Ghosts S) (old mid end : Held S) (r : Result U Error)
    (Done : Type 0) : Type 0 where
  pub settled : IsQuiescent g end
  pub clean : StaysUnclean g old end
  pub was_open : IsClean g end → IsOpen g end → IsOpen g old
  pub opened : IsClean g end → OnOk r (IsOpen g end)
  pub done : IsClean g end → OnOk r (((state g end).now ≡ (state g mid).now) × Done)
  pub none : (IsClean g old → IsOpen g old → (state g old).committed ≡ (state g old).now)
      → IsClean g end → IsOpen g end → OnErr r ((state g end).now ≡ (state g old).now)
  pub crash : IsClean g end → (db : Trees) → (state g end).may_leave db → (state g old).may_leave db
      ⊎ ((db ≡ (state g mid).now.trees) × Done)

-- What is known after a commit that succeeded.
abbrev Ends : State → State → Type 0
Ends a b = IsTrue a.in_transaction × Shows a b a.now a.now false × KeepsCounts a b × (b.marks ≡ [])

end_was_open : {U : Type 0} (r : Result U Error) (a b : State) → OnOk r (Ends a b)
    → IfErr r (FailsToCommit a b) → IsTrue b.is_open → IsTrue a.is_open
end_was_open (Ok x) a b ok err opened = ok.1.was_open
end_was_open (Err e) a b ok (inl failed) opened = failed.3.was_open opened
end_was_open (Err e) a b ok (inr refused) opened = refused.2.0.was_open

end_settled : {U : Type 0} (r : Result U Error) (a b : State) → IsTrue a.in_transaction
    → OnOk r (Ends a b) → IfErr r (FailsToCommit a b) → IsTrue b.is_open → b.committed ≡ b.now
end_settled (Ok x) a b inside ok err opened = ok.1.committed_is ∙ sym ok.1.now_is
end_settled (Err e) a b inside ok (inl failed) opened = let back = failed.3.undone opened in
    back.1 ∙ sym back.0
end_settled (Err e) a b inside ok (inr refused) opened = absurd cc

end_undone : {U : Type 0} (r : Result U Error) (a b : State) → IsTrue a.in_transaction
    → IfErr r (FailsToCommit a b) → IsTrue b.is_open → OnErr r (b.now ≡ a.committed)
end_undone (Ok x) a b inside err opened = tt
end_undone (Err e) a b inside (inl failed) opened = (failed.3.undone opened).0
end_undone (Err e) a b inside (inr refused) opened = absurd cc

-- The connection after a transaction is as good as that before it.
record IsNoBetter {S : Type 0} (g : Ghosts S) (old mid end : Held S) : Type 0 where
  before : IsClean g end → IsClean g mid
  clean : StaysUnclean g old end
  was_open : IsClean g end → IsOpen g mid → IsOpen g old
  committed : IsClean g end → IsOpen g mid → (state g mid).committed ≡ (state g old).committed
  crash : IsClean g end → (db : Trees) → (state g mid).may_leave db → (state g old).may_leave db

no_better : {S T : Type 0} {g : Ghosts S} {old end : Held S} {begun mid : MutBor (Held S)}
    {out : Result T Error} {Done : Type 0} → begun.now ≡ record old { in_transaction = true }
    → IsStep g begun mid out Done → StaysUnclean g mid.now end → IsNoBetter g old mid.now end
no_better {g = g} {old = old} {end = end} {begun = begun} {mid = mid} is step later =
    let before : IsClean g end → IsClean g mid.now = λ c. omega (arith, later, c) in
    let first : StaysUnclean g old mid.now = rw is at step.survives.clean in
    let kept = λ (c : IsClean g end). step.kept (before c) (rw is refl) in
    record {
      before = before;
      clean = omega (arith, first, later);
      was_open = λ c opened. subst (IsOpen g) is ((kept c).was_open opened);
      committed = λ c opened. (kept c).committed opened
          ∙ ap (λ (h : Held _). (state g h).committed) is;
      crash = λ c db left. rw is at (spared _ _ step.survives (before c) db left);
    }

-- The transaction was undone, and the function fails.
pub undone : {S T U : Type 0} {g : Ghosts S} {old end : Held S} {begun mid : MutBor (Held S)}
    {out : Result T Error} {r : Result U Error} {Done : Type 0} (Why : Error → Type 0)
    → begun.now ≡ record old { in_transaction = true } → IsStep g begun mid out Done
    → IsErrAnd r Why → end.in_transaction ≡ false
    → (IsClean g end → IsRolledBack (state g mid.now) (state g end))
    → Survives (state g mid.now) (state g end) (λ _. ⊥) → IsEnded g old mid.now end r ⊥
undone {g = g} {old = old} {end = end} {r = r} Why is step failed ended undoes survives =
    let s = no_better {old = old} {end = end} is step survives.clean in
    let err = (err_from_is_err_and r failed).1 in
    let open_before : IsClean g end → IsOpen g end → IsOpen g old =
    λ c opened. s.was_open c ((undoes c).was_open opened) in
    record {
      settled = record {
        idle = ended;
        committed = λ c opened. let back = (undoes c).undone opened in back.1 ∙ sym back.0;
      };
      clean = s.clean;
      was_open = open_before;
      opened = λ c. rw err tt;
      done = λ c. rw err tt;
      none = λ settled c opened. rw err (((undoes c).undone opened).0
          ∙ s.committed c ((undoes c).was_open opened) ∙ settled (omega (arith, s.clean, c))
          (open_before c opened));
      crash = λ c db left. inl (s.crash c db (spared _ _ survives c db left));
    }

-- The transaction was committed, if that did not fail.
pub committed : {S T U : Type 0} {g : Ghosts S} {old end : Held S} {begun mid : MutBor (Held S)}
    {x : T} {r : Result U Error} {Done : Type 0}
    → begun.now ≡ record old { in_transaction = true } → IsStep g begun mid (Ok x) Done
    → Survives (state g mid.now) (state g end) (λ db. db ≡ (state g mid.now).now.trees)
    → end.in_transaction ≡ false
    → (IsClean g end → OnOk r (Ends (state g mid.now) (state g end)))
    → (IsClean g end → IfErr r (FailsToCommit (state g mid.now) (state g end)))
    → IsEnded g old mid.now end r Done
committed {g = g} {old = old} {end = end} {mid = mid} {r = r} is step survives ended ok err =
    let a = state g mid.now in
    let b = state g end in
    let s = no_better {old = old} {end = end} is step survives.clean in
    let did = λ (c : IsClean g end). step.done (s.before c) (rw is refl) in
    let open_before : IsClean g end → IsOpen g end → IsOpen g old =
    λ c opened. s.was_open c (end_was_open r a b (ok c) (err c) opened) in
    record {
      settled = record {
        idle = ended;
        committed = λ c opened. end_settled r a b (did c).0 (ok c) (err c) opened;
      };
      clean = s.clean;
      was_open = open_before;
      opened = λ c. on_ok_weaker r (λ ends. ends.1.is_open) (ok c);
      done = λ c. on_ok_weaker r (λ ends. (ends.1.now_is, (did c).1)) (ok c);
      none = λ settled c opened. on_err_weaker r
          (λ back. back ∙ s.committed c (end_was_open r a b (ok c) (err c) opened)
          ∙ settled (omega (arith, s.clean, c)) (open_before c opened))
          (end_undone r a b (did c).0 (err c) opened);
      crash = λ c db left. elim (survives.crash c db left) [
        | inl same ↦ inl (s.crash c db same)
        | inr made ↦ inr (made, (did c).1)
      ];
    }
