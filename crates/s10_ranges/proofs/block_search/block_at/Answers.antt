use Rattle.std.proofs.Common.{◌∙◌, ℕ, ◌+◌, ◌-◌, ◌/◌, ◌<◌, ◌≤◌, [], sym, ap, arith, length, get_or}
use Rattle.std.proofs.lemmas.List.{get_or_read}
use Rattle.s10_ranges.specs.Keys.{key_by}
use Rattle.s10_ranges.proofs.Blocks.{start_zero}
use Rattle.s10_ranges.proofs.BlockSearch.{IsPart, part_places, part_up_to, part_from_on, last_at}
use Rattle.s10_ranges.proofs.block_search.block_at.Goals as goal

pub loop-low-init : goal.loop-low-init
loop-low-init c =
    let bs = c.args.list.now.blocks.items in
    let count = ap length c.blocks-blocks.ensures in
    record {
      ordered = omega arith;
      within = omega (arith, count);
      below = λ j d lt. absurd (omega (arith, lt, start_zero bs));
      above = λ j d lt from to. absurd (omega (arith, lt, count));
    }

pub bounds-ranges-indices : goal.bounds-ranges-indices
bounds-ranges-indices c =
    let bs = c.args.list.now.blocks.items in
    let mid : ℕ = c.loop-low.low + (c.loop-low.high - c.loop-low.low) / 2 in
    let count = ap length c.blocks-blocks.ensures in
    let there : mid < length bs =
    omega (arith, c.loop-low.invariant.within, c.loop-low-test.true) in
    let part : IsPart (key_by c.args.by) c.args.ranges.now bs mid c.indices-indices.result.now =
    record {
      blocks = c.args.list.now.filled;
      places = c.requires.places;
      rising = c.requires.rising;
      there = there;
      is = c.indices-indices.ensures
          ∙ get_or_read c.blocks-blocks.result.now mid c.index-blocks-middle.result
          (omega (arith, count, there)) c.index-blocks-middle.is []
          ∙ ap (λ xs. get_or xs mid []) c.blocks-blocks.ensures;
    } in
    let last = last_at (key_by c.args.by) c.args.ranges.now bs mid c.indices-indices.result.now part in
    part_places (key_by c.args.by) c.args.ranges.now bs mid c.indices-indices.result.now part
    (length c.indices-indices.result.now - 1) (omega (arith, last.0))

pub loop-low-preserved-then-sort_key_of-key : goal.loop-low-preserved-then-sort_key_of-key
loop-low-preserved-then-sort_key_of-key c =
    let bs = c.args.list.now.blocks.items in
    let mid : ℕ = c.loop-low.low + (c.loop-low.high - c.loop-low.low) / 2 in
    let count = ap length c.blocks-blocks.ensures in
    let there : mid < length bs =
    omega (arith, c.loop-low.invariant.within, c.loop-low-test.true) in
    let part : IsPart (key_by c.args.by) c.args.ranges.now bs mid c.indices-indices.result.now =
    record {
      blocks = c.args.list.now.filled;
      places = c.requires.places;
      rising = c.requires.rising;
      there = there;
      is = c.indices-indices.ensures
          ∙ get_or_read c.blocks-blocks.result.now mid c.index-blocks-middle.result
          (omega (arith, count, there)) c.index-blocks-middle.is []
          ∙ ap (λ xs. get_or xs mid []) c.blocks-blocks.ensures;
    } in
    let here : key_by c.args.by c.index-ranges-indices.result < c.args.key =
    omega (arith, c.sort_key_of.ensures, c.if-sort_key_of-key.true) in
    record {
      ordered = omega (arith, c.loop-low-test.true);
      within = c.loop-low.invariant.within;
      below = part_up_to (key_by c.args.by) c.args.ranges.now bs mid c.indices-indices.result.now
          c.args.key c.index-ranges-indices.result part (sym c.index-ranges-indices.is) here;
      above = c.loop-low.invariant.above;
    }

pub loop-low-preserved : goal.loop-low-preserved
loop-low-preserved c =
    let bs = c.args.list.now.blocks.items in
    let mid : ℕ = c.loop-low.low + (c.loop-low.high - c.loop-low.low) / 2 in
    let count = ap length c.blocks-blocks.ensures in
    let there : mid < length bs =
    omega (arith, c.loop-low.invariant.within, c.loop-low-test.true) in
    let part : IsPart (key_by c.args.by) c.args.ranges.now bs mid c.indices-indices.result.now =
    record {
      blocks = c.args.list.now.filled;
      places = c.requires.places;
      rising = c.requires.rising;
      there = there;
      is = c.indices-indices.ensures
          ∙ get_or_read c.blocks-blocks.result.now mid c.index-blocks-middle.result
          (omega (arith, count, there)) c.index-blocks-middle.is []
          ∙ ap (λ xs. get_or xs mid []) c.blocks-blocks.ensures;
    } in
    let here : c.args.key ≤ key_by c.args.by c.index-ranges-indices.result =
    omega (arith, c.sort_key_of.ensures, c.if-sort_key_of-key.false) in
    record {
      ordered = omega arith;
      within = omega (arith, there);
      below = c.loop-low.invariant.below;
      above = λ j d lt. part_from_on (key_by c.args.by) c.args.ranges.now bs mid
          c.indices-indices.result.now c.args.key c.index-ranges-indices.result part
          (sym c.index-ranges-indices.is) here j d;
    }
