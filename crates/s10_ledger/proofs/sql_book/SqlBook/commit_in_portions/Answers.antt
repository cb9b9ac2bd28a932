use Rattle.std.proofs.Common.{◌∙◌, arith, refl}
use Rattle.s10_book.proofs.Calls.{CommitsSome-trans, commits_unchanged}
use Rattle.s10_ledger.proofs.BookLemmas.{commits_counted}
use Rattle.s10_ledger.proofs.PendingLemmas.{ledger_of}
use Rattle.s10_ledger.proofs.sql_book.SqlBook.commit_in_portions.Goals as goal

pub returns-in_err-ask_again-clause-commits_some :
    goal.returns-in_err-ask_again-clause-commits_some
returns-in_err-ask_again-clause-commits_some g c =
    commits_unchanged (λ h. (c.args.self.now.pending, refl)) c.in_err-ask_again.ensures.unchanged

pub loop-self-init : goal.loop-self-init
loop-self-init g c = record {
  faults = c.in_ok-ask_again.ensures.faults;
  commits_some =
      commits_unchanged (λ h. (c.args.self.now.pending, refl)) c.in_ok-ask_again.ensures.unchanged;
  opened = c.in_ok-ask_again.ensures.opened;
  some = omega (arith, c.max-most.ensures);
}

pub returns-in_default-halved-clause-commits_some :
    goal.returns-in_default-halved-clause-commits_some
returns-in_default-halved-clause-commits_some g c =
    let book = c.self-in-Err.inside in
    commits_counted g.S.Store c.args.self.now
    (ledger_of book.conn book.settings book.index book.pending.items book.faults)
    c.counted.new.faults
    (rw (← c.self-in-Err.view_is) at (CommitsSome-trans c.loop-self.invariant.commits_some
    c.in-Err.ensures.commits_some))

pub loop-self-preserved-in-Continue-branch-2 : goal.loop-self-preserved-in-Continue-branch-2
loop-self-preserved-in-Continue-branch-2 g c = record {
  faults = c.in_ok-ask_again-2.ensures.faults ∙ (c.in-Err.ensures.same_faults
      ∙ c.loop-self.invariant.faults);
  commits_some = CommitsSome-trans
      (CommitsSome-trans c.loop-self.invariant.commits_some c.in-Err.ensures.commits_some)
      (commits_unchanged (λ h. (c.write_first.new.self.pending, refl))
      c.in_ok-ask_again-2.ensures.unchanged);
  opened = c.in_ok-ask_again-2.ensures.opened;
  some = c.in-Some.ensures.fewer.0;
}

pub returns-in_err-ask_again-2-clause-commits_some :
    goal.returns-in_err-ask_again-2-clause-commits_some
returns-in_err-ask_again-2-clause-commits_some g c = CommitsSome-trans
    (CommitsSome-trans c.loop-self.invariant.commits_some c.in-Err.ensures.commits_some)
    (commits_unchanged (λ h. (c.write_first.new.self.pending, refl))
    c.in_err-ask_again-2.ensures.unchanged)

pub loop-self-preserved : goal.loop-self-preserved
loop-self-preserved g c = record {
  faults = c.in_default.ensures.same_faults ∙ c.loop-self.invariant.faults;
  commits_some = CommitsSome-trans c.loop-self.invariant.commits_some
      c.in_default.ensures.commits_some;
  opened = c.in_default.ensures.opened;
  some = c.loop-self.invariant.some;
}
