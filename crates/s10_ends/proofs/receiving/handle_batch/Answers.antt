use Rattle.std.proofs.Common.{◌≡◌, ℕ, ◌<◌, ◌≤◌, [], Some, None, refl, subst, arith, ◌∙◌}
use Rattle.s10_ends.proofs.Filling.{room_for_next, room_for_first, room_kept, one_longer}
use Rattle.s10_ends.proofs.Filling.{one_pushed, first_pushed, few_of_none, fewer, no_more_than}
use Rattle.s10_ends.proofs.Filling.{all_held}
use Rattle.s10_ends.proofs.Batches.{taken_none, taken_all, one_more, no_more, failed}
use Rattle.s10_link.specs.Link.{Receives}
use Rattle.s10_link.specs.Link.LeadsTo.{none as none_led}
use Rattle.s10_ends.proofs.Turns.{taken_with, quiet_is}
use Rattle.s10_link.proofs.Led.{led_on}
use Rattle.s10_ends.proofs.receiving.handle_batch.Goals as goal

held_few : (held index most : ℕ) → held ≡ index → index ≤ most → held ≤ most
held_few held index most many few = omega arith

none_yet : (most : ℕ) → 1 ≤ most → 0 < most
none_yet most some = omega arith

pub returns-in_err-from-clause-few : goal.returns-in_err-from-clause-few
returns-in_err-from-clause-few g c = few_of_none c.args.taken.now.items c.args.most c.requires.none

pub returns-in_default-clause-few : goal.returns-in_default-clause-few
returns-in_default-clause-few g c = few_of_none c.args.taken.now.items c.args.most c.requires.none

pub push_reserved-requires : goal.push_reserved-requires
push_reserved-requires g c = room_for_first c.args.taken.now.items _ _ c.args.most
    c.args.taken.now.ok.0 c.requires.none c.requires.some c.requires.room

pub returns-in_err-next-clause-few : goal.returns-in_err-next-clause-few
returns-in_err-next-clause-few g c = no_more_than _ c.loop-more._more c.args.most
    c.loop-more.invariant.count c.loop-more-test.true

pub returns-in_default-2-clause-few : goal.returns-in_default-2-clause-few
returns-in_default-2-clause-few g c = no_more_than _ c.loop-more._more c.args.most
    c.loop-more.invariant.count c.loop-more-test.true

pub push_reserved-requires-in-loop-more : goal.push_reserved-requires-in-loop-more
push_reserved-requires-in-loop-more g c = room_for_next _ _ c.loop-more._more c.args.most
    c.loop-more.invariant.many c.loop-more-test.true c.loop-more.invariant.room

pub returns-clause-few : goal.returns-clause-few
returns-clause-few g c = held_few _ c.loop-more._more c.args.most c.loop-more.invariant.count
    (c.loop-more.auto._more-end c.requires.some)

pub returns-in_err-from-clause-taken : goal.returns-in_err-from-clause-taken
returns-in_err-from-clause-taken g c = λ begun received.
    rw c.requires.none (failed _ c.args.most (begun, c.args.server.now.book) _ []
    (taken_none _ c.args.most (begun, c.args.server.now.book)) _
    c.in_err-from.field-0.0 c.from_residual.result (none_yet c.args.most c.requires.some)
    (subst (Receives begun (g.L.Link.trace_of c.args.link.now)) c.in_err-from.was received, refl)
    c.from_residual.ensures.1)

pub returns-in_default-clause-taken : goal.returns-in_default-clause-taken
returns-in_default-clause-taken g c = λ begun received.
    rw c.requires.none (no_more _ c.args.most (begun, c.args.server.now.book) _ []
    (taken_none _ c.args.most (begun, c.args.server.now.book)) _ None
    (none_yet c.args.most c.requires.some) (
      quiet_is begun (g.L.Link.trace_of c.args.link.now) c.in_ok-from.field-0
          (subst (Receives begun (g.L.Link.trace_of c.args.link.now)) c.in_ok-from.was received)
          c.in_default.is,
      refl,
    ) refl)

pub loop-more-init : goal.loop-more-init
loop-more-init g c = record {
  room = room_kept _ _ c.args.most c.requires.room c.push_reserved.ensures.capacity;
  capacity = c.push_reserved.ensures.capacity;
  many = first_pushed c.args.taken.now.items _ _ c.args.taken.now.ok.0 c.requires.none
      c.push_reserved.ensures.len;
  count = rw (c.push_reserved.ensures.items, c.requires.none) refl;
  takes = λ begun received.
      rw (c.push_reserved.ensures.items, c.requires.none) (one_more _ c.args.most
      (begun, c.args.server.now.book) _ []
      (taken_none _ c.args.most (begun, c.args.server.now.book)) _ (Some _) _ (
        taken_with begun (g.L.Link.trace_of c.args.link.now) c.in_ok-from.field-0 c.in-Some.from
            c.in-Some.packet _
            (subst (Receives begun (g.L.Link.trace_of c.args.link.now)) c.in_ok-from.was received)
            c.in-Some.is (cc),
        c.handle_packet-answer.ensures.handles,
      ) refl);
  led = none_led;
}

pub returns-in_err-next-clause-taken : goal.returns-in_err-next-clause-taken
returns-in_err-next-clause-taken g c = λ begun received. failed _ c.args.most _ _ _
    (c.loop-more.invariant.takes begun received) _ c.in_err-next.field-0.0
    c.from_residual-in_err-next.result
    (fewer _ c.loop-more._more c.args.most c.loop-more.invariant.count c.loop-more-test.true)
    c.in_err-next.ensures.takes c.from_residual-in_err-next.ensures.1

pub returns-in_default-2-clause-taken : goal.returns-in_default-2-clause-taken
returns-in_default-2-clause-taken g c = λ begun received. no_more _ c.args.most _ _ _
    (c.loop-more.invariant.takes begun received) _ c.in_ok-next.field-0
    (fewer _ c.loop-more._more c.args.most c.loop-more.invariant.count c.loop-more-test.true)
    c.in_ok-next.ensures.takes c.in_default-2.is

pub loop-more-preserved : goal.loop-more-preserved
loop-more-preserved g c = record {
  room = room_kept _ _ c.args.most c.loop-more.invariant.room
      c.push_reserved-in-loop-more.ensures.capacity;
  capacity = c.push_reserved-in-loop-more.ensures.capacity ∙ c.loop-more.invariant.capacity;
  many = one_longer _ _ c.loop-more._more c.loop-more.invariant.many
      c.push_reserved-in-loop-more.ensures.len;
  count = one_pushed c.loop-more.taken.items _ c.in-Some-2.next c.loop-more._more
      c.loop-more.invariant.count c.push_reserved-in-loop-more.ensures.items;
  takes = λ begun received. rw c.push_reserved-in-loop-more.ensures.items
      (one_more _ c.args.most _ _ _ (c.loop-more.invariant.takes begun received) _
      c.in_ok-next.field-0 c.in-Some-2.next c.in_ok-next.ensures.takes c.in-Some-2.is);
  led = led_on c.loop-more.invariant.led c.in_ok-next.ensures.led;
}

pub returns-clause-taken : goal.returns-clause-taken
returns-clause-taken g c = λ begun received. taken_all _ c.args.most _ _ _
    (c.loop-more.invariant.takes begun received)
    (all_held _ c.loop-more._more c.args.most c.loop-more.invariant.count
    (c.loop-more.auto._more-end c.requires.some) c.loop-more-test.false)

pub returns-clause-led : goal.returns-clause-led
returns-clause-led g c = c.loop-more.invariant.led

pub returns-in_err-next-clause-led : goal.returns-in_err-next-clause-led
returns-in_err-next-clause-led g c = led_on c.loop-more.invariant.led c.in_err-next.ensures.led

pub returns-in_default-2-clause-led : goal.returns-in_default-2-clause-led
returns-in_default-2-clause-led g c = led_on c.loop-more.invariant.led c.in_ok-next.ensures.led

pub returns-in_err-from-clause-led : goal.returns-in_err-from-clause-led
returns-in_err-from-clause-led g c = none_led

pub returns-in_default-clause-led : goal.returns-in_default-clause-led
returns-in_default-clause-led g c = none_led

pub returns-clause-capacity : goal.returns-clause-capacity
returns-clause-capacity g c = c.loop-more.invariant.capacity

pub returns-in_err-next-clause-capacity : goal.returns-in_err-next-clause-capacity
returns-in_err-next-clause-capacity g c = c.loop-more.invariant.capacity

pub returns-in_default-2-clause-capacity : goal.returns-in_default-2-clause-capacity
returns-in_default-2-clause-capacity g c = c.loop-more.invariant.capacity

pub returns-in_err-from-clause-capacity : goal.returns-in_err-from-clause-capacity
returns-in_err-from-clause-capacity g c = refl

pub returns-in_default-clause-capacity : goal.returns-in_default-clause-capacity
returns-in_default-clause-capacity g c = refl
