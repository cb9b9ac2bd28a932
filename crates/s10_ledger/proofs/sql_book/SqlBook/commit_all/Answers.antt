use Rattle.s10_book.proofs.Calls.{Unchanged-trans}
use Rattle.s10_ledger.proofs.sql_book.SqlBook.commit_all.Goals as goal

pub commit_pending-requires : goal.commit_pending-requires
commit_pending-requires g c = λ clean. (c.in_ok-ask_again.ensures.opened clean).is_open

pub returns-clause-unchanged : goal.returns-clause-unchanged
returns-clause-unchanged g c = Unchanged-trans c.in_ok-ask_again.ensures.unchanged
    c.commit_pending.ensures.unchanged
