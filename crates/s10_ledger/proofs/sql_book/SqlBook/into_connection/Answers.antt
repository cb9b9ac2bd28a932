use Rattle.std.proofs.Common.{refl}
use Rattle.s10_ledger.proofs.PendingLemmas.{sound_is_honest}
use Rattle.s10_ledger.proofs.sql_book.SqlBook.into_connection.Goals as goal

pub returns-clause-same : goal.returns-clause-same
returns-clause-same g c = rw (← c.self.view_is) refl

pub returns-clause-idle : goal.returns-clause-idle
returns-clause-idle g c = c.self.invariant.settled.idle

pub returns-clause-committed : goal.returns-clause-committed
returns-clause-committed g c = λ clean opened. c.self.invariant.settled.committed clean opened

pub returns-clause-honest : goal.returns-clause-honest
returns-clause-honest g c = rw (← c.self.view_is) (λ clean opened.
    sound_is_honest g.S.Store c.self.inside.conn c.self.inside.settings c.self.inside.index
    c.self.inside.pending.items c.self.inside.answered _ c.self.invariant clean opened)
