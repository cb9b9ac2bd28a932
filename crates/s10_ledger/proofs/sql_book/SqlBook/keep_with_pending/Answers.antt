use Rattle.std.proofs.Common.{◌++◌, ◌∷◌, [], arith, refl}
use Rattle.sqlite.specs.State.{HasCleanDisk}
use Rattle.sqlite.specs.Held.{state}
use Rattle.s10_statements.proofs.CrashLemmas.{either}
use Rattle.s10_ledger.specs.Ledger.{history_in}
use Rattle.s10_ledger.specs.Pending.{calls_of}
use Rattle.s10_ledger.proofs.BookLemmas.{if_answered, may_find_also}
use Rattle.s10_ledger.proofs.PendingLemmas.{sound_after_keep, sound_is_honest, kept_in}
use Rattle.s10_ledger.proofs.PendingLemmas.{longer_if_kept, grows_after_keep, honest_if_ok}
use Rattle.s10_ledger.proofs.PendingLemmas.{ledger_of}
use Rattle.s10_ledger.proofs.sql_book.SqlBook.keep_with_pending.Goals as goal

pub invariant_of-self : goal.invariant_of-self
invariant_of-self g c =
    let k = c.keep_call-kept.ensures in
    sound_after_keep g.S.Store c.self.inside.conn c.keep_call-kept.new.conn c.self.inside.settings
    c.self.inside.index c.keep_call-kept.new.index c.self.inside.pending.items c.args.entry
    c.self.inside.answered c.self.invariant
    (λ clean opened. (rw (← c.self.view_is) at c.requires)
    (sound_is_honest g.S.Store c.self.inside.conn c.self.inside.settings c.self.inside.index
    c.self.inside.pending.items c.self.inside.answered c.self.inside.faults c.self.invariant
    clean opened))
    c.keep_call-kept.new.pending.items c.is_ok-answered.result k.few k.settled k.clean k.was_open
    (λ so clean. if_answered c.keep_call-kept.result _ c.is_ok-answered.result
    c.is_ok-answered.ensures.value (k.opened clean) so)
    c.keep_call-kept.result k.calls k.same_calls k.followed k.same_index k.ok k.err k.emptied k.left

pub returns-clause-ok : goal.returns-clause-ok
returns-clause-ok g c = rw (c.counted.ensures.same, ← c.self.view_is)
    (λ h. let k = c.keep_call-kept.ensures in
    longer_if_kept g.S.Store c.self.inside.conn c.keep_call-kept.new.conn c.self.inside.settings
    c.self.inside.index c.keep_call-kept.new.index c.self.inside.pending.items c.args.entry
    c.self.inside.answered c.self.invariant
    (λ clean opened. (rw (← c.self.view_is) at c.requires)
    (sound_is_honest g.S.Store c.self.inside.conn c.self.inside.settings c.self.inside.index
    c.self.inside.pending.items c.self.inside.answered c.self.inside.faults c.self.invariant
    clean opened))
    c.keep_call-kept.new.pending.items c.is_ok-answered.result k.few k.settled k.clean k.was_open
    (λ so clean. if_answered c.keep_call-kept.result _ c.is_ok-answered.result
    c.is_ok-answered.ensures.value (k.opened clean) so)
    c.keep_call-kept.result k.ok k.emptied h.clean h.is_open)

pub returns-clause-stays_committed : goal.returns-clause-stays_committed
returns-clause-stays_committed g c = rw (← c.self.view_is) (λ h. let k = c.keep_call-kept.ensures in
    grows_after_keep g.S.Store c.self.inside.conn c.keep_call-kept.new.conn c.self.inside.settings
    c.self.inside.index c.keep_call-kept.new.index c.self.inside.pending.items c.args.entry
    c.self.inside.answered c.self.invariant
    (λ clean opened. (rw (← c.self.view_is) at c.requires)
    (sound_is_honest g.S.Store c.self.inside.conn c.self.inside.settings c.self.inside.index
    c.self.inside.pending.items c.self.inside.answered c.self.inside.faults c.self.invariant
    clean opened))
    c.keep_call-kept.new.pending.items c.is_ok-answered.result k.few k.settled k.clean k.was_open
    (λ so clean. if_answered c.keep_call-kept.result _ c.is_ok-answered.result
    c.is_ok-answered.ensures.value (k.opened clean) so)
    c.keep_call-kept.result k.ok k.err h.clean h.is_open)

pub returns-clause-opened : goal.returns-clause-opened
returns-clause-opened g c = rw c.counted.ensures.same (honest_if_ok g.S.Store
    c.keep_call-kept.new.conn c.self.inside.settings c.keep_call-kept.new.index
    c.keep_call-kept.new.pending.items c.is_ok-answered.result c.counted.new.faults
    c.keep_call-kept.result (invariant_of-self g c) c.keep_call-kept.ensures.opened)

pub returns-clause-stop : goal.returns-clause-stop
returns-clause-stop g c = rw (← c.self.view_is) (λ answered.
    let conn = c.self.inside.conn in
    let k = c.keep_call-kept.ensures in
    may_find_also g.S.Store (ledger_of conn c.self.inside.settings c.self.inside.index
    c.self.inside.pending.items c.self.inside.faults)
    (ledger_of c.keep_call-kept.new.conn c.self.inside.settings c.keep_call-kept.new.index
    c.keep_call-kept.new.pending.items c.counted.new.faults)
    ((history_in (state g.S.Store conn).now ++ calls_of c.self.inside.pending.items)
    ++ c.args.entry ∷ []) k.clean refl (λ clean db left.
    let was_clean : HasCleanDisk (state g.S.Store conn) = omega (arith, k.clean, clean) in
    let was_open = answered was_clean in
    let honest = sound_is_honest g.S.Store conn c.self.inside.settings c.self.inside.index
    c.self.inside.pending.items c.self.inside.answered c.self.inside.faults c.self.invariant in
    either (k.crash clean db left) (λ left. left) (λ made. (
      honest was_clean was_open,
      kept_in g.S.Store conn c.keep_call-kept.new.conn c.self.inside.settings
          c.self.inside.index c.keep_call-kept.new.index c.self.inside.pending.items c.args.entry
          c.self.inside.answered c.self.invariant
          (λ clean opened. (rw (← c.self.view_is) at c.requires) (honest clean opened)) db
          was_clean was_open made,
    ))))
