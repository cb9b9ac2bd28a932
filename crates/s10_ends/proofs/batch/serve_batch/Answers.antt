use Rattle.std.proofs.Common.{◌≡◌, ℕ, ◌+◌, ◌≤◌, List, length, refl, ap, ◌∙◌, arith}
use Rattle.std.proofs.lemmas.Bool.{false≢true}
use Rattle.std.proofs.lemmas.Result.{err_from_is_err_and}
use Rattle.s10_ends.specs.declared.exchange.Exchange.{Exchange}
use Rattle.s10_ends.proofs.Batches.{turns_some, turns_few}
use Rattle.s10_ends.proofs.Standing.{batch_stands}
use Rattle.s10_link.specs.Link.LeadsTo.{none}
use Rattle.s10_link.proofs.Led.{led_on, led_once}
use Rattle.s10_ends.proofs.batch.serve_batch.Goals as goal

-- A capacity that has not changed is still enough.
still_room : (most before now : ℕ) → most ≤ before → now ≡ before → most ≤ now
still_room most before now room kept = omega arith

-- The capacity is enough for the turns of the exchanges.
room_for : (most capacity : ℕ) (taken now : List Exchange) → now ≡ taken → length taken ≤ most
    → most + 1 ≤ capacity → length now ≤ capacity
room_for most capacity taken now same few room = omega (arith, ap length same)

-- The capacity is enough for one turn after these.
room_after : (most before capacity turns : ℕ) (taken now : List Exchange) → now ≡ taken
    → length taken ≤ most → most + 1 ≤ before → turns ≡ length now → capacity ≡ before
    → turns + 1 ≤ capacity
room_after most before capacity turns taken now same few room many kept =
    omega (arith, ap length same)

pub handle_batch-ended-requires-clause-some : goal.handle_batch-ended-requires-clause-some
handle_batch-ended-requires-clause-some g c = c.requires

pub handle_batch-ended-requires-clause-none : goal.handle_batch-ended-requires-clause-none
handle_batch-ended-requires-clause-none g c = c.clear_for.ensures.exchanges

pub handle_batch-ended-requires-clause-room : goal.handle_batch-ended-requires-clause-room
handle_batch-ended-requires-clause-room g c = c.in_ok-clear_for.ensures.room.0

pub commit_and_reply-requires-clause-none : goal.commit_and_reply-requires-clause-none
commit_and_reply-requires-clause-none g c = c.clear_for.ensures.turns

pub commit_and_reply-requires-clause-room : goal.commit_and_reply-requires-clause-room
commit_and_reply-requires-clause-room g c = room_for c.args.most _ _ _ c.deref.ensures.value
    c.handle_batch-ended.ensures.few c.in_ok-clear_for.ensures.room.1

pub push_end-requires : goal.push_end-requires
push_end-requires g c = room_after c.args.most _ _ _ _ _ c.deref.ensures.value
    c.handle_batch-ended.ensures.few c.in_ok-clear_for.ensures.room.1
    c.commit_and_reply.ensures.many c.commit_and_reply.ensures.capacity

pub returns-clause-some : goal.returns-clause-some
returns-clause-some g c =
    rw c.push_end.ensures.turns (turns_some c.handle_batch-ended.result
    c.commit_and_reply.new.turns.items)

pub returns-clause-few : goal.returns-clause-few
returns-clause-few g c =
    rw c.push_end.ensures.turns (turns_few _ c.args.most _ _ _ _ c.commit_and_reply.new.turns.items
    (c.handle_batch-ended.ensures.taken _ c.receive-first.ensures.trace) c.requires c.handle_batch-ended.ensures.few
    (c.commit_and_reply.ensures.many ∙ ap length c.deref.ensures.value))

pub returns-clause-served : goal.returns-clause-served
returns-clause-served g c = record {
  between = _;
  ended = c.handle_batch-ended.result;
  takes = c.handle_batch-ended.ensures.taken _ c.receive-first.ensures.trace;
  answered = _;
  answers = rw (← c.deref.ensures.value) c.commit_and_reply.ensures.answered;
  are = c.push_end.ensures.turns;
}

pub returns-clause-stands : goal.returns-clause-stands
returns-clause-stands g c = batch_stands _ _ _ _ _ _ _ c.args.day c.args.most _ _ _ _
    (returns-clause-served g c)

pub returns-in_err-clear_for-clause-served : goal.returns-in_err-clear_for-clause-served
returns-in_err-clear_for-clause-served g c =
    rw (err_from_is_err_and c.from_residual.result c.from_residual.ensures.1).1 tt

pub returns-in_err-clear_for-clause-stands : goal.returns-in_err-clear_for-clause-stands
returns-in_err-clear_for-clause-stands g c =
    λ h. rw (err_from_is_err_and c.from_residual.result c.from_residual.ensures.1).1 tt

pub returns-in_err-clear_for-clause-some : goal.returns-in_err-clear_for-clause-some
returns-in_err-clear_for-clause-some g c =
    rw (err_from_is_err_and c.from_residual.result c.from_residual.ensures.1).1 tt

pub returns-in_err-clear_for-clause-few : goal.returns-in_err-clear_for-clause-few
returns-in_err-clear_for-clause-few g c =
    rw (err_from_is_err_and c.from_residual.result c.from_residual.ensures.1).1 tt

pub returns-in_err-clear_for-clause-room : goal.returns-in_err-clear_for-clause-room
returns-in_err-clear_for-clause-room g c =
    rw (err_from_is_err_and c.from_residual.result c.from_residual.ensures.1).1 tt

pub returns-in_err-clear_for-clause-refused : goal.returns-in_err-clear_for-clause-refused
returns-in_err-clear_for-clause-refused g c =
    rw (err_from_is_err_and c.from_residual.result c.from_residual.ensures.1).1 (refl, refl, c.clear_for.ensures.turns)

pub returns-in_err-clear_for-clause-had : goal.returns-in_err-clear_for-clause-had
returns-in_err-clear_for-clause-had g c = λ room.
    absurd (false≢true (rw c.in_err-clear_for.was at (c.clear_for.ensures.had room)))

pub returns-clause-refused : goal.returns-clause-refused
returns-clause-refused g c = tt

pub returns-clause-led : goal.returns-clause-led
returns-clause-led g c = led_on (led_once c.receive-first.ensures.step)
    (led_on c.handle_batch-ended.ensures.led c.commit_and_reply.ensures.led)

pub returns-in_err-clear_for-clause-led : goal.returns-in_err-clear_for-clause-led
returns-in_err-clear_for-clause-led g c = none

pub returns-clause-room : goal.returns-clause-room
returns-clause-room g c = (
  still_room c.args.most _ _ c.in_ok-clear_for.ensures.room.0
      c.handle_batch-ended.ensures.capacity,
  still_room (c.args.most + 1) _ _ c.in_ok-clear_for.ensures.room.1
      (c.push_end.ensures.capacity ∙ c.commit_and_reply.ensures.capacity),
)

pub returns-clause-had : goal.returns-clause-had
returns-clause-had g c = λ room. refl
