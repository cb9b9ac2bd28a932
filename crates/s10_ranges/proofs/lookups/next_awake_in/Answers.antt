use Rattle.std.proofs.Common.{◌≡◌, ◌∙◌, ◌+◌, ◌<◌, ◌≤◌, ℕ, Bool, false, not, sym, ap, arith, get_or}
use Rattle.std.proofs.Common.{length}
use Rattle.s10_history.specs.declared.range.Range.{Range}
use Rattle.s10_ranges.specs.BlockList.{indices_of}
use Rattle.s10_ranges.specs.Blocks.{start_of, position_of}
use Rattle.s10_ranges.specs.Keys.{holder_key}
use Rattle.std.specs.Prelude.{min}
use Rattle.std.proofs.Math.Nat.{min-le_left}
use Rattle.std.proofs.lemmas.List.Edits.{length-between}
use Rattle.s10_ranges.specs.Rests.{rests_on}
use Rattle.s10_ranges.proofs.Blocks.{cursor_inside, cursor_within, before_lower, not_before_end}
use Rattle.s10_ranges.proofs.Blocks.{start_next}
use Rattle.s10_ranges.proofs.Awake.{IsHeldRun, held_run_found, held_run_none, rests_is}
use Rattle.s10_ranges.proofs.Awake.{part_index, rests_moved, rests_before}
use Rattle.s10_ranges.proofs.lookups.next_awake_in.Goals as goal

pub part-part-requires-clause-before : goal.part-part-requires-clause-before
part-part-requires-clause-before c = before_lower c.args.by_holder.now.blocks.items
    c.loop-cursor.cursor c.cursor_at-end.result c.loop-cursor.invariant.at c.cursor_at-end.ensures.at
    (sym c.is_before.ensures ∙ c.loop-cursor-test.true)

pub next_block-cursor-requires : goal.next_block-cursor-requires
next_block-cursor-requires c =
    let bs = c.args.by_holder.now.blocks.items in
    let lower = before_lower bs c.loop-cursor.cursor c.cursor_at-end.result
    c.loop-cursor.invariant.at c.cursor_at-end.ensures.at
    (sym c.is_before.ensures ∙ c.loop-cursor-test.true) in
    cursor_inside bs c.loop-cursor.cursor c.loop-cursor.invariant.at
    (omega (arith, lower, cursor_within bs c.cursor_at-end.result c.cursor_at-end.ensures.at))

pub bounds-ranges-place : goal.bounds-ranges-place
bounds-ranges-place c =
    let bs = c.args.by_holder.now.blocks.items in
    let marks = c.args.marks.now in
    let rests = c.args.rests.now in
    let order = indices_of c.args.by_holder.now in
    let from = position_of bs c.loop-cursor.cursor in
    let to : ℕ = min (position_of bs c.cursor_at-end.result)
    (start_of bs (c.loop-cursor.cursor.block + 1)) in
    let fits = cursor_within bs c.cursor_at-end.result c.cursor_at-end.ensures.at in
    let upto : to ≤ position_of bs c.cursor_at-end.result =
    min-le_left (position_of bs c.cursor_at-end.result)
    (start_of bs (c.loop-cursor.cursor.block + 1)) in
    let k = c.in-Some.ensures.0 in
    let at = part_index order c.part-part.result.now from to k c.part-part.ensures
    (omega (arith, upto, fits)) c.in-Some.ensures.1 in
    let place = c.requires.held.places (from + k) (omega (arith, at.0, upto, fits)) in
    omega (arith, place, at.1, c.in-Some.ensures.2)

pub returns-in-Some : goal.returns-in-Some
returns-in-Some c =
    let bs = c.args.by_holder.now.blocks.items in
    let run : IsHeldRun c.args.ranges.now (indices_of c.args.by_holder.now) c.args.after
    c.args.held.now.holder c.args.held.now.service c.args.held.now.country
    (position_of bs c.cursor_at-cursor.result) (position_of bs c.cursor_at-end.result)
    c.holder_sort_key-low.result = record {
      cut = record {
        sound = c.requires.sound;
        held = c.requires.held;
        service = c.holder_sort_key-low.ensures.service;
        country = c.holder_sort_key-low.ensures.country;
        key_is = c.holder_sort_key-low.ensures.value
            ∙ ap (λ n. holder_key c.args.held.now.holder c.args.held.now.service
            c.args.held.now.country (n + 1)) c.from.ensures;
        below = c.cursor_at-cursor.ensures.below;
        above = c.cursor_at-cursor.ensures.above;
      };
      fits = cursor_within bs c.cursor_at-end.result c.cursor_at-end.ensures.at;
      below = λ j d lt. let key = c.cursor_at-end.ensures.below j d lt in
          omega (arith, key, c.holder_sort_key-high.ensures.value);
      above = λ j d le lt. let key = c.cursor_at-end.ensures.above j d le lt in
          omega (arith, key, c.holder_sort_key-high.ensures.value);
    } in
    let marks = c.args.marks.now in
    let rests = c.args.rests.now in
    let order = indices_of c.args.by_holder.now in
    let from = position_of bs c.loop-cursor.cursor in
    let to : ℕ = min (position_of bs c.cursor_at-end.result)
    (start_of bs (c.loop-cursor.cursor.block + 1)) in
    let fits = cursor_within bs c.cursor_at-end.result c.cursor_at-end.ensures.at in
    let upto : to ≤ position_of bs c.cursor_at-end.result =
    min-le_left (position_of bs c.cursor_at-end.result)
    (start_of bs (c.loop-cursor.cursor.block + 1)) in
    let k = c.in-Some.ensures.0 in
    let at = part_index order c.part-part.result.now from to k c.part-part.ensures
    (omega (arith, upto, fits)) c.in-Some.ensures.1 in
    let rs = c.args.ranges.now in
    let on : Range → Bool = λ r. rests_on c.args.marks.now c.args.rests.now c.args.day c.args.interval r in
    let r = c.index-ranges-place.result in
    let inside : from + k < position_of bs c.cursor_at-end.result = omega (arith, at.0, upto) in
    let is : get_or rs (get_or order (from + k) 0) r ≡ r =
    ap (λ i. get_or rs i r) (at.1 ∙ c.in-Some.ensures.2) ∙ sym c.index-ranges-place.is in
    let here : on r ≡ false =
    ap on (sym is)
    ∙ rests_is rs order marks rests c.args.day c.args.interval c.requires.sound
    c.requires.held.places (from + k) r (omega (arith, inside, fits))
    ∙ rests_moved marks rests order c.part-part.result.now c.args.day c.args.interval (from + k) k
    at.1 ∙ c.in-Some.ensures.3 in
    sym (held_run_found rs order _ _ _ _ _ _ _
    (λ x. not (rests_on c.args.marks.now c.args.rests.now c.args.day c.args.interval x))
    (from + k) r run (omega (arith, c.loop-cursor.invariant.from)) inside is (ap not here)
    (λ j d since before. ap not (rests_is rs order marks rests c.args.day c.args.interval
    c.requires.sound c.requires.held.places j d (omega (arith, before, inside, fits))
    ∙ rests_before marks rests order c.part-part.result.now c.args.day c.args.interval
    (position_of bs c.cursor_at-cursor.result) from to k c.part-part.ensures
    (omega (arith, upto, fits)) (omega (arith, c.in-Some.ensures.1))
    (λ i le lt. c.loop-cursor.invariant.resting i le lt (omega (arith, lt, at.0, upto)))
    c.in-Some.ensures.4 j since before)))

pub loop-cursor-smaller : goal.loop-cursor-smaller
loop-cursor-smaller c =
    let bs = c.args.by_holder.now.blocks.items in
    let lower = before_lower bs c.loop-cursor.cursor c.cursor_at-end.result
    c.loop-cursor.invariant.at c.cursor_at-end.ensures.at
    (sym c.is_before.ensures ∙ c.loop-cursor-test.true) in
    let fits = cursor_within bs c.cursor_at-end.result c.cursor_at-end.ensures.at in
    let lt = cursor_inside bs c.loop-cursor.cursor c.loop-cursor.invariant.at
    (omega (arith, lower, fits)) in
    let offset = c.loop-cursor.invariant.at.inside lt in
    let next = start_next bs c.loop-cursor.cursor.block lt in
    omega (arith, c.next_block-cursor.ensures.next, next, offset, lower, fits)

pub loop-cursor-preserved : goal.loop-cursor-preserved
loop-cursor-preserved c =
    let bs = c.args.by_holder.now.blocks.items in
    let marks = c.args.marks.now in
    let rests = c.args.rests.now in
    let order = indices_of c.args.by_holder.now in
    let from = position_of bs c.loop-cursor.cursor in
    let to : ℕ = min (position_of bs c.cursor_at-end.result)
    (start_of bs (c.loop-cursor.cursor.block + 1)) in
    let fits = cursor_within bs c.cursor_at-end.result c.cursor_at-end.ensures.at in
    let upto : to ≤ position_of bs c.cursor_at-end.result =
    min-le_left (position_of bs c.cursor_at-end.result)
    (start_of bs (c.loop-cursor.cursor.block + 1)) in
    let lower = before_lower bs c.loop-cursor.cursor c.cursor_at-end.result
    c.loop-cursor.invariant.at c.cursor_at-end.ensures.at
    (sym c.is_before.ensures ∙ c.loop-cursor-test.true) in
    let lt = cursor_inside bs c.loop-cursor.cursor c.loop-cursor.invariant.at
    (omega (arith, lower, fits)) in
    let offset = c.loop-cursor.invariant.at.inside lt in
    let next = start_next bs c.loop-cursor.cursor.block lt in
    let long = ap length c.part-part.ensures ∙ length-between order from to (omega (arith, upto, fits)) in
    record {
      at = c.next_block-cursor.ensures.at;
      from = omega (
        arith,
        c.loop-cursor.invariant.from,
        c.next_block-cursor.ensures.next,
        next,
        offset,
      );
      resting = λ j since before within.
          let inside : j < to = omega (arith, before, within, c.next_block-cursor.ensures.next) in
          rests_before marks rests order c.part-part.result.now c.args.day c.args.interval
          (position_of bs c.cursor_at-cursor.result) from to (length c.part-part.result.now)
          c.part-part.ensures (omega (arith, upto, fits)) (omega arith)
          (λ i le less. c.loop-cursor.invariant.resting i le less (omega (arith, less, lower)))
          c.in_default.ensures j since (omega (arith, long, inside));
    }

pub returns : goal.returns
returns c =
    let bs = c.args.by_holder.now.blocks.items in
    let run : IsHeldRun c.args.ranges.now (indices_of c.args.by_holder.now) c.args.after
    c.args.held.now.holder c.args.held.now.service c.args.held.now.country
    (position_of bs c.cursor_at-cursor.result) (position_of bs c.cursor_at-end.result)
    c.holder_sort_key-low.result = record {
      cut = record {
        sound = c.requires.sound;
        held = c.requires.held;
        service = c.holder_sort_key-low.ensures.service;
        country = c.holder_sort_key-low.ensures.country;
        key_is = c.holder_sort_key-low.ensures.value
            ∙ ap (λ n. holder_key c.args.held.now.holder c.args.held.now.service
            c.args.held.now.country (n + 1)) c.from.ensures;
        below = c.cursor_at-cursor.ensures.below;
        above = c.cursor_at-cursor.ensures.above;
      };
      fits = cursor_within bs c.cursor_at-end.result c.cursor_at-end.ensures.at;
      below = λ j d lt. let key = c.cursor_at-end.ensures.below j d lt in
          omega (arith, key, c.holder_sort_key-high.ensures.value);
      above = λ j d le lt. let key = c.cursor_at-end.ensures.above j d le lt in
          omega (arith, key, c.holder_sort_key-high.ensures.value);
    } in
    let past : position_of bs c.cursor_at-end.result ≤ position_of bs c.loop-cursor.cursor =
    not_before_end bs c.loop-cursor.cursor c.cursor_at-end.result c.loop-cursor.invariant.at
    c.cursor_at-end.ensures.at (sym c.is_before.ensures ∙ c.loop-cursor-test.false) in
    sym (held_run_none c.args.ranges.now (indices_of c.args.by_holder.now) _ _ _ _ _ _ _
    (λ x. not (rests_on c.args.marks.now c.args.rests.now c.args.day c.args.interval x)) run
    (λ j d from upto. ap not (rests_is c.args.ranges.now (indices_of c.args.by_holder.now)
    c.args.marks.now c.args.rests.now c.args.day c.args.interval c.requires.sound
    c.requires.held.places j d (omega (arith, upto, run.fits))
    ∙ c.loop-cursor.invariant.resting j from (omega (arith, upto, past)) upto)))
