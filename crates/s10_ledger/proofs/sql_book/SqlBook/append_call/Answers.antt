use Rattle.std.proofs.Common.{◌<◌, length, arith}
use Rattle.std.proofs.lemmas.List.{length-map}
use Rattle.s10_rows.specs.declared.call_write.CallWrite.{CallWrite}
use Rattle.s10_ledger.proofs.PendingLemmas.{sound_after_hold, sound_is_honest, written_calls}
use Rattle.s10_ledger.proofs.PendingLemmas.{calls_if_left}
use Rattle.s10_ledger.proofs.sql_book.SqlBook.append_call.Goals as goal

pub invariant_of-self : goal.invariant_of-self
invariant_of-self g c =
    let k = c.append_pending-held.ensures in
    let few : length c.self.inside.pending.items < 64 =
    omega (
      arith,
      length-map c.self.inside.pending.items (λ (w : CallWrite). w.entry),
      rw (← c.self.view_is) at c.requires.room,
    ) in
    sound_after_hold g.S.Store c.self.inside.conn c.self.inside.settings c.self.inside.index
    c.append_pending-held.new.index c.self.inside.pending.items
    c.append_pending-held.new.pending.items c.args.entry.now c.self.inside.answered
    c.self.invariant few
    (λ clean opened. (rw (← c.self.view_is) at c.requires.follows)
    (sound_is_honest g.S.Store c.self.inside.conn c.self.inside.settings c.self.inside.index
    c.self.inside.pending.items c.self.inside.answered c.self.inside.faults c.self.invariant
    clean opened))
    k.few c.append_pending-held.result k.calls k.same_calls k.written k.left k.followed k.same_index

pub returns-clause-was_honest : goal.returns-clause-was_honest
returns-clause-was_honest g c = rw (← c.self.view_is)
    (λ h. sound_is_honest g.S.Store c.self.inside.conn c.self.inside.settings c.self.inside.index
    c.self.inside.pending.items c.self.inside.answered c.self.inside.faults c.self.invariant
    h.clean h.is_open)

pub returns-clause-ok : goal.returns-clause-ok
returns-clause-ok g c = rw (c.counted.ensures.same, ← c.self.view_is)
    (written_calls c.self.inside.index c.self.inside.pending.items
    c.append_pending-held.new.pending.items c.args.entry.now c.append_pending-held.result
    c.append_pending-held.ensures.written)

pub returns-clause-err : goal.returns-clause-err
returns-clause-err g c = rw (c.counted.ensures.same, ← c.self.view_is)
    (calls_if_left c.append_pending-held.result c.self.inside.pending.items
    c.append_pending-held.new.pending.items c.append_pending-held.ensures.left)

pub returns-clause-honest : goal.returns-clause-honest
returns-clause-honest g c = λ clean opened. sound_is_honest g.S.Store c.self.inside.conn
    c.self.inside.settings c.append_pending-held.new.index c.append_pending-held.new.pending.items
    c.self.inside.answered c.counted.new.faults (invariant_of-self g c) clean opened

pub returns-clause-memory : goal.returns-clause-memory
returns-clause-memory g c = rw (c.counted.ensures.same, ← c.self.view_is) (λ honest.
    let followed = c.self.invariant.followed honest.clean honest.is_open in
    c.append_pending-held.ensures.memory _ c.self.inside.settings followed.legal
    ((rw (← c.self.view_is) at c.requires.follows) honest) followed.indexed
    (omega (arith, c.limit-limit.ensures.value)))
