use Rattle.sqlite.specs.Held.{state}
use Rattle.s10_ledger.specs.Ledger.{history_in}
use Rattle.s10_ledger.proofs.CommittedLemmas.{committed_unless_pending}
use Rattle.s10_ledger.proofs.sql_book.SqlBookGroupCommit.is_committed.Goals as goal

pub returns : goal.returns
returns g c honest =
    let book = c.args.self.now in
    committed_unless_pending (history_in (state g.S.Store book.conn).now) book.pending book.terms
    c.args.customer c.args.number c.is_pending.result honest.legal
    (rw (← c.self.view_is) (rw c.deref.ensures.value at c.is_pending.ensures))
