use Rattle.std.specs.Prelude.{max, Contains, IfOk}
use Rattle.std.proofs.Common.{◌≡◌, ◌++◌, List, ◌∙◌, ap, sym, subst, arith, length}
use Rattle.std.proofs.lemmas.List.{append-nil}
use base.Stored.{Coded-set}
use Rattle.s10_history.specs.contracts.usage.Usage.{the_row}
use Rattle.sqlite.specs.State.{HasCleanDisk}
use Rattle.sqlite.specs.Held.{state}
use Rattle.s10_history.specs.declared.entry.Entry.{Entry}
use Rattle.s10_history.specs.Usage.{usage_of}
use Rattle.s10_history.specs.History.{day_of, ranges_of}
use Rattle.s10_ledger.specs.Ledger.{Ledger, history_in}
use Rattle.s10_ledger.specs.Pending.{calls_of, committed_among}
use Rattle.s10_ledger.proofs.BookLemmas.{if_answered, was_ledger, read_keeps, answered}
use Rattle.s10_ledger.proofs.BookLemmas.{schema_is}
use Rattle.s10_ledger.proofs.PendingLemmas.{ledger_of, sound_after_read, sound_is_honest}
use Rattle.s10_ledger.proofs.PendingLemmas.{honest_if_ok}
use Rattle.s10_ledger.proofs.sql_book.SqlBook.usage_committed.Goals as goal

pub invariant_of-self : goal.invariant_of-self
invariant_of-self g c =
    sound_after_read g.S.Store c.self.inside.conn c.usage_in-found.new.conn c.self.inside.settings
    c.self.inside.index c.self.inside.pending.items c.self.inside.answered
    c.is_ok-answered.result c.self.invariant
    c.usage_in-found.ensures.leaves (λ so clean. if_answered c.usage_in-found.result _
    c.is_ok-answered.result c.is_ok-answered.ensures.value
    (c.usage_in-found.ensures.opened clean) so)

pub returns-clause-unchanged : goal.returns-clause-unchanged
returns-clause-unchanged g c =
    let old : Ledger g.row.S.Denot = ledger_of c.self.inside.conn c.self.inside.settings
    c.self.inside.index c.self.inside.pending.items c.self.inside.faults in
    rw (← c.self.view_is) (read_keeps g.S.Store old c.usage_in-found.new.conn c.counted.new.faults
    c.usage_in-found.ensures.leaves (λ clean db left.
    let kept = committed_among c.self.inside.pending.items c.self.inside.index.entries.items in
    let was_clean : HasCleanDisk (state g.S.Store c.self.inside.conn) =
    omega (arith, c.usage_in-found.ensures.leaves.clean, clean) in
    c.usage_in-found.ensures.spares clean (schema_is (state g.S.Store c.self.inside.conn).now
    c.self.inside.settings (length kept) (day_of kept) (c.self.invariant.ledger was_clean
    ((rw (← c.self.view_is) at c.requires.opened) was_clean))) db left)
    c.self.invariant.settled c.self.invariant.ledger)

pub returns-clause-opened : goal.returns-clause-opened
returns-clause-opened g c = rw c.counted.ensures.same (honest_if_ok g.S.Store
    c.usage_in-found.new.conn c.self.inside.settings c.self.inside.index
    c.self.inside.pending.items c.is_ok-answered.result c.counted.new.faults
    c.usage_in-found.result (invariant_of-self g c) c.usage_in-found.ensures.opened)

pub returns-clause-answer : goal.returns-clause-answer
returns-clause-answer g c honest =
    let kept = committed_among c.self.inside.pending.items c.self.inside.index.entries.items in
    let now = (state g.S.Store c.self.inside.conn).now in
    let found = c.usage_in-found.ensures in
    let was = was_ledger g.S.Store c.self.inside.conn c.usage_in-found.new.conn
    c.self.inside.settings (length kept) (day_of kept) found.leaves c.self.invariant.settled
    c.self.invariant.ledger honest.clean honest.is_open in
    let followed = c.self.invariant.followed (omega (arith, found.leaves.clean, honest.clean))
    (found.leaves.was_open honest.clean honest.is_open) in
    let none : history_in now ++ calls_of c.self.inside.pending.items ≡ history_in now =
    ap (λ (p : List Entry). history_in now ++ p)
    (rw (← c.self.view_is) at c.requires.none_pending) ∙ append-nil (history_in now) in
    let has = (rw (← c.self.view_is) at c.requires.there)
    (sound_is_honest g.S.Store c.self.inside.conn c.self.inside.settings c.self.inside.index
    c.self.inside.pending.items c.self.inside.answered c.self.inside.faults c.self.invariant
    (omega (arith, found.leaves.clean, honest.clean))
    (found.leaves.was_open honest.clean honest.is_open)) in
    let calls : c.self.inside.index.entries.items ≡ history_in now = followed.indexed.calls
    ∙ none in
    rw (c.counted.ensures.same, ← c.self.view_is)
    (subst (λ (h : List Entry). IfOk c.usage_in-found.result (λ u. u ≡ usage_of h c.args.range.now
    c.args.day c.self.inside.settings.interval)) (sym none)
    (answered (Coded-set the_row.coded) c.usage_in-found.result
    (usage_of (history_in now) c.args.range.now c.args.day c.self.inside.settings.interval)
    was.held
    (λ h. rw c.interval-interval.ensures.value at (found.answer honest.clean (history_in now)
    c.self.inside.settings was.legal h.calls h.tables
    (omega (arith, ap length calls, c.self.invariant.few))
    (subst (λ (l : List Entry). Contains (ranges_of l) c.args.range.now) none has) c.args.day
    (c.max-day.ensures ∙ ap (λ d. max d c.args.day) (c.day.ensures ∙ ap day_of calls))))))
