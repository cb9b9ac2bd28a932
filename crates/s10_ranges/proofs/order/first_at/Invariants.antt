use Rattle.std.proofs.Common.{ℕ, ◌-◌, ◌<◌, ◌≤◌, length}
use Rattle.s10_history.specs.declared.range.Range.{Range}
use Rattle.s10_ranges.specs.Keys.{key_by}
use Rattle.s10_ranges.specs.Order.{range_at}
use Rattle.s10_ranges.proofs.order.first_at.Given as goal

abbrev pub invariant-loop-low : goal.invariant-loop-low
invariant-loop-low l = record {
  ordered : l.low ≤ l.high;
  within : l.high ≤ length l.order;
  below : (j : ℕ) (d : Range) → j < l.low → key_by l.by (range_at l.ranges l.order j d) < l.key;
  above : (j : ℕ) (d : Range) → l.high ≤ j → j < length l.order
      → l.key ≤ key_by l.by (range_at l.ranges l.order j d);
}

abbrev pub decreases-loop-low : goal.decreases-loop-low
decreases-loop-low l = l.high - l.low
