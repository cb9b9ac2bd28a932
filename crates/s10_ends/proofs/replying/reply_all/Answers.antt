use Rattle.std.proofs.Common.{◌≡◌, ◌∷◌, ◌++◌, [], ◌+◌, sym, ap, ◌∙◌, refl, take, take_all, append-nil, append_assoc}
use Rattle.std.proofs.lemmas.List.{take_more}
use Rattle.s10_link.specs.declared.trace.Trace.{Trace}
use Rattle.s10_ends.specs.declared.exchange.Exchange.{Exchange}
use Rattle.s10_ends.specs.Turn.{sends_for}
use Rattle.s10_ends.specs.Batch.{sends_of}
use Rattle.s10_ends.proofs.Sending.{all_zip_more, sends_more}
use Rattle.s10_ends.proofs.Filling.{room_for_next, room_kept, one_longer, none_held, all_filled}
use Rattle.s10_link.proofs.Led.{led_on}
use Rattle.s10_link.specs.Link.LeadsTo.{none as led_none}
use Rattle.s10_ends.proofs.replying.reply_all.Goals as goal

pub loop-next-init : goal.loop-next-init
loop-next-init g c = record {
  room = c.requires.room;
  capacity = refl;
  many = none_held c.args.turns.now.items _ c.args.turns.now.ok.0 c.requires.none;
  answers = rw c.requires.none tt;
  sends = sym (append-nil (g.L.Link.trace_of c.args.link.now));
  led = led_none;
}

pub loop-next-preserved : goal.loop-next-preserved
loop-next-preserved g c =
    let before = c.loop-next.invariant in
    let all : take (c.loop-next.next-index + 1) c.args.taken.now ≡ take c.loop-next.next-index
    c.args.taken.now ++ c.next-item.result ∷ [] =
    take_more c.args.taken.now c.loop-next.next-index c.next-item.result c.loop-next-test.true
    ∙ ap (λ (t : Exchange). take c.loop-next.next-index c.args.taken.now ++ t ∷ [])
    (sym c.next-item.is) in
    record {
      room = room_kept _ _ _ before.room c.push_reserved.ensures.capacity;
      capacity = c.push_reserved.ensures.capacity ∙ before.capacity;
      many = one_longer _ _ c.loop-next.next-index before.many c.push_reserved.ensures.len;
      answers = rw (all, c.push_reserved.ensures.items)
          (all_zip_more _ (take c.loop-next.next-index c.args.taken.now) c.loop-next.turns.items
          c.next-item.result c.answer-turn.result before.answers c.answer-turn.ensures.answers);
      sends = rw (all, c.push_reserved.ensures.items)
          (c.answer-turn.ensures.sends
          ∙ ap (λ (t : Trace). t ++ sends_for c.next-item.result.answer c.next-item.result.from
          c.answer-turn.result) before.sends
          ∙ append_assoc (g.L.Link.trace_of c.args.link.now)
          (sends_of (take c.loop-next.next-index c.args.taken.now) c.loop-next.turns.items)
          (sends_for c.next-item.result.answer c.next-item.result.from c.answer-turn.result)
          ∙ ap (λ (t : Trace). g.L.Link.trace_of c.args.link.now ++ t)
          (sym (sends_more _ (take c.loop-next.next-index c.args.taken.now) c.loop-next.turns.items
          c.next-item.result c.answer-turn.result before.answers)));
      led = led_on before.led c.answer-turn.ensures.led;
    }

pub push_reserved-requires : goal.push_reserved-requires
push_reserved-requires g c = room_for_next _ _ c.loop-next.next-index _ c.loop-next.invariant.many
    c.loop-next-test.true c.loop-next.invariant.room

pub returns-clause-answers : goal.returns-clause-answers
returns-clause-answers g c =
    rw (take_all c.loop-next.next-index c.args.taken.now c.loop-next-test.false)
    at c.loop-next.invariant.answers

pub returns-clause-sends : goal.returns-clause-sends
returns-clause-sends g c =
    rw (take_all c.loop-next.next-index c.args.taken.now c.loop-next-test.false)
    at c.loop-next.invariant.sends

pub returns-clause-many : goal.returns-clause-many
returns-clause-many g c = all_filled _ _ c.loop-next.next-index _ c.loop-next.turns.ok.0
    c.loop-next.invariant.many c.loop-next.auto.next-index-end c.loop-next-test.false

pub returns-clause-capacity : goal.returns-clause-capacity
returns-clause-capacity g c = c.loop-next.invariant.capacity

pub returns-clause-led : goal.returns-clause-led
returns-clause-led g c = c.loop-next.invariant.led
