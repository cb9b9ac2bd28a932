use Rattle.std.proofs.Common.{arith, sym, ℕ, ◌+◌, ◌-◌, ◌/◌, ◌<◌, ◌≤◌, length}
use Rattle.s10_ranges.specs.Keys.{key_by}
use Rattle.s10_ranges.proofs.Orders.{up_to, from_on}
use Rattle.s10_ranges.proofs.order.first_at.Goals as goal

pub loop-low-preserved-then-sort_key_of-key : goal.loop-low-preserved-then-sort_key_of-key
loop-low-preserved-then-sort_key_of-key c =
    let mid : ℕ = c.loop-low.low + (c.loop-low.high - c.loop-low.low) / 2 in
    let inside : mid < length c.args.order.now = omega arith in
    let place = c.requires.places mid inside in
    let here : key_by c.args.by c.index-ranges-order.result < c.args.key =
    omega (arith, c.sort_key_of.ensures, c.if-sort_key_of-key.true) in
    record {
      ordered = omega arith;
      within = c.loop-low.invariant.within;
      below = up_to (key_by c.args.by) c.args.ranges.now c.args.order.now mid c.args.key
          c.index-ranges-order.result inside place c.requires.rising (sym c.index-ranges-order.is)
          here;
      above = c.loop-low.invariant.above;
    }

pub loop-low-preserved : goal.loop-low-preserved
loop-low-preserved c =
    let mid : ℕ = c.loop-low.low + (c.loop-low.high - c.loop-low.low) / 2 in
    let inside : mid < length c.args.order.now = omega arith in
    let place = c.requires.places mid inside in
    let here : c.args.key ≤ key_by c.args.by c.index-ranges-order.result =
    omega (arith, c.sort_key_of.ensures, c.if-sort_key_of-key.false) in
    record {
      ordered = omega arith;
      within = omega arith;
      below = c.loop-low.invariant.below;
      above = from_on (key_by c.args.by) c.args.ranges.now c.args.order.now mid c.args.key
          c.index-ranges-order.result place c.requires.rising (sym c.index-ranges-order.is) here;
    }
