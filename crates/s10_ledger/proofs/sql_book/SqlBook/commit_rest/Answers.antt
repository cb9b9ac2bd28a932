use Rattle.std.proofs.Common.{◌≡◌, [], refl, sym, arith}
use Rattle.std.proofs.lemmas.List.{append-nil}
use Rattle.std.specs.Prelude.{vec_len}
use Rattle.s10_book.proofs.Calls.{Unchanged-refl}
use Rattle.s10_ledger.specs.Ledger.{committed_of}
use Rattle.s10_ledger.proofs.PendingLemmas.{no_calls, some_calls, all_are_committed}
use Rattle.s10_ledger.proofs.sql_book.SqlBook.commit_rest.Goals as goal

pub returns-clause-unchanged : goal.returns-clause-unchanged
returns-clause-unchanged g c = Unchanged-refl c.args.self.now

pub returns-clause-done : goal.returns-clause-done
returns-clause-done g c = λ honest.
    let none : c.args.self.now.pending ≡ [] = rw (← c.self.view_is)
    (no_calls c.self.inside.pending.items (vec_len c.self.inside.pending)
    (cc) (omega (arith, c.self.inside.pending.ok.0))) in
    rw none (sym (append-nil (committed_of g.S.Store c.args.self.now)))

pub returns-then-not-is_empty-clause-unchanged : goal.returns-then-not-is_empty-clause-unchanged
returns-then-not-is_empty-clause-unchanged g c = c.commit_all.ensures.unchanged

pub returns-then-not-is_empty-clause-done : goal.returns-then-not-is_empty-clause-done
returns-then-not-is_empty-clause-done g c = λ honest. all_are_committed g.S.Store
    c.commit_all.new.self
    c.commit_all.result c.commit_all.ensures.none_pending

pub returns-then-not-is_empty-clause-left : goal.returns-then-not-is_empty-clause-left
returns-then-not-is_empty-clause-left g c = c.commit_all.ensures.left

pub returns-then-not-is_empty-clause-same : goal.returns-then-not-is_empty-clause-same
returns-then-not-is_empty-clause-same g c = λ none. absurd (some_calls c.self.inside.pending.items
    (vec_len c.self.inside.pending) (cc)
    (omega (arith, c.self.inside.pending.ok.0)) (rw (← c.self.view_is) at none))

pub returns-then-not-is_empty-clause-none_pending :
    goal.returns-then-not-is_empty-clause-none_pending
returns-then-not-is_empty-clause-none_pending g c =
    λ none. absurd (some_calls c.self.inside.pending.items
    (vec_len c.self.inside.pending) (cc)
    (omega (arith, c.self.inside.pending.ok.0)) (rw (← c.self.view_is) at none))

pub returns-clause-faults : goal.returns-clause-faults
returns-clause-faults g c = refl

pub returns-then-not-is_empty-clause-faults : goal.returns-then-not-is_empty-clause-faults
returns-then-not-is_empty-clause-faults g c = c.commit_all.ensures.faults
