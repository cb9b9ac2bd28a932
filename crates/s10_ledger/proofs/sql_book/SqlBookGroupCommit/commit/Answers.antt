use Rattle.s10_ledger.proofs.PendingLemmas.{all_are_committed}
use Rattle.s10_ledger.proofs.sql_book.SqlBookGroupCommit.commit.Goals as goal

pub returns-clause-faults : goal.returns-clause-faults
returns-clause-faults g c = c.commit_in_portions.ensures.faults

pub returns-clause-commits_some : goal.returns-clause-commits_some
returns-clause-commits_some g c = c.commit_in_portions.ensures.commits_some

pub returns-clause-opened : goal.returns-clause-opened
returns-clause-opened g c = c.commit_in_portions.ensures.opened

pub returns-clause-done : goal.returns-clause-done
returns-clause-done g c = λ honest. all_are_committed g.S.Store c.commit_in_portions.new.self
    c.commit_in_portions.result c.commit_in_portions.ensures.none_pending
