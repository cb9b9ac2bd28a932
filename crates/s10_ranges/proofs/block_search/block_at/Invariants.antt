use Rattle.std.proofs.Common.{ℕ, ◌+◌, ◌-◌, ◌<◌, ◌≤◌, length}
use Rattle.s10_history.specs.declared.range.Range.{Range}
use Rattle.s10_ranges.specs.BlockList.{indices_of}
use Rattle.s10_ranges.specs.Blocks.{start_of}
use Rattle.s10_ranges.specs.Keys.{key_by}
use Rattle.s10_ranges.specs.Order.{range_at}
use Rattle.s10_ranges.proofs.block_search.block_at.Given as goal

abbrev pub invariant-loop-low : goal.invariant-loop-low
invariant-loop-low l = record {
  ordered : l.low ≤ l.high;
  within : l.high ≤ length l.list.blocks.items;
  below : (j : ℕ) (d : Range) → j < start_of l.list.blocks.items l.low
      → key_by l.by (range_at l.ranges (indices_of l.list) j d) < l.key;
  above : (j : ℕ) (d : Range) → l.high < length l.list.blocks.items
      → start_of l.list.blocks.items (l.high + 1) ≤ j + 1 → j < length (indices_of l.list)
      → l.key ≤ key_by l.by (range_at l.ranges (indices_of l.list) j d);
}

abbrev pub decreases-loop-low : goal.decreases-loop-low
decreases-loop-low l = l.high - l.low
