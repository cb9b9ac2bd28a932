use Rattle.std.proofs.Common.{rules, length}
use Rattle.sqlite.specs.Held.{state}
use Rattle.s10_history.specs.History.{day_of}
use Rattle.s10_book.proofs.Calls.{Unchanged-refl}
use Rattle.s10_ledger.specs.Ledger.{Ledger}
use Rattle.s10_ledger.specs.Pending.{committed_among}
use Rattle.s10_ledger.proofs.BookLemmas.{same_tables, if_answered, read_keeps, closed_is}
use Rattle.s10_ledger.proofs.PendingLemmas.{ledger_of, sound_after_read, sound_is_honest}
use Rattle.s10_ledger.proofs.PendingLemmas.{honest_if_ok}
use Rattle.s10_ledger.proofs.sql_book.SqlBook.ask_again.Goals as goal

pub invariant_of-self : goal.invariant_of-self
invariant_of-self g c =
    sound_after_read g.S.Store c.self.inside.conn c.ask-asked.new.conn c.self.inside.settings
    c.self.inside.index c.self.inside.pending.items c.self.inside.answered
    c.is_ok-answered.result c.self.invariant
    c.ask-asked.ensures.leaves (λ so clean. if_answered c.ask-asked.result _ c.is_ok-answered.result
    c.is_ok-answered.ensures.value (c.ask-asked.ensures.opened clean) so)

pub returns-clause-unchanged : goal.returns-clause-unchanged
returns-clause-unchanged g c =
    let old : Ledger g.row.S.Denot = ledger_of c.self.inside.conn c.self.inside.settings
    c.self.inside.index c.self.inside.pending.items c.self.inside.faults in
    rw (← c.self.view_is) (read_keeps g.S.Store old c.ask-asked.new.conn c.counted.new.faults
    c.ask-asked.ensures.leaves c.ask-asked.ensures.spares c.self.invariant.settled
    c.self.invariant.ledger)

pub returns-clause-same : goal.returns-clause-same
returns-clause-same g c =
    let kept = committed_among c.self.inside.pending.items c.self.inside.index.entries.items in
    rw (← c.self.view_is) (λ honest. same_tables g.S.Store c.self.inside.conn c.ask-asked.new.conn
    c.self.inside.settings (length kept) (day_of kept) c.ask-asked.ensures.leaves
    c.self.invariant.settled c.self.invariant.ledger
    honest.clean honest.is_open)

pub returns-clause-opened : goal.returns-clause-opened
returns-clause-opened g c = rw c.counted.ensures.same (honest_if_ok g.S.Store c.ask-asked.new.conn
    c.self.inside.settings c.self.inside.index c.self.inside.pending.items c.is_ok-answered.result
    c.counted.new.faults c.ask-asked.result (invariant_of-self g c) c.ask-asked.ensures.opened)

pub returns-then-self-clause-unchanged : goal.returns-then-self-clause-unchanged
returns-then-self-clause-unchanged g c = Unchanged-refl c.args.self.now

pub returns-then-self-clause-opened : goal.returns-then-self-clause-opened
returns-then-self-clause-opened g c = rw (← c.self.view_is) (λ clean. sound_is_honest g.S.Store
    c.self.inside.conn c.self.inside.settings c.self.inside.index c.self.inside.pending.items
    c.self.inside.answered c.self.inside.faults c.self.invariant clean
    (c.self.invariant.opened (search rules) clean))

pub returns-clause-store : goal.returns-clause-store
returns-clause-store g c = rw (c.counted.ensures.same, ← c.self.view_is) (λ honest clean is.
    let ledger = closed_is (state g.S.Store c.self.inside.conn).now _ _ _ honest.ledger in
    c.ask-asked.ensures.store clean honest.is_open ledger.ledger is)

pub returns-then-self-clause-store : goal.returns-then-self-clause-store
returns-then-self-clause-store g c = λ honest clean is. absurd cc
