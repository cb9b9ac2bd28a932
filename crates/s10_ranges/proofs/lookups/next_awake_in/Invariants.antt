use Rattle.std.proofs.Common.{◌≡◌, ℕ, ◌-◌, ◌<◌, ◌≤◌, true, length}
use Rattle.s10_ranges.specs.BlockList.{indices_of}
use Rattle.s10_ranges.specs.Blocks.{position_of, IsCursor}
use Rattle.s10_ranges.specs.Rests.{rests_along}
use Rattle.s10_ranges.proofs.lookups.next_awake_in.Given as goal

abbrev pub invariant-loop-cursor : goal.invariant-loop-cursor
invariant-loop-cursor l = record {
  at : IsCursor l.by_holder.blocks.items l.cursor;
  from : position_of l.by_holder.blocks.items l.initial.cursor
      ≤ position_of l.by_holder.blocks.items l.cursor;
  resting : (j : ℕ) → position_of l.by_holder.blocks.items l.initial.cursor ≤ j
      → j < position_of l.by_holder.blocks.items l.cursor
      → j < position_of l.by_holder.blocks.items l.end
      → rests_along l.marks l.rests (indices_of l.by_holder) l.day l.interval j ≡ true;
}

abbrev pub decreases-loop-cursor : goal.decreases-loop-cursor
decreases-loop-cursor l = length (indices_of l.by_holder)
    - position_of l.by_holder.blocks.items l.cursor
