use Rattle.s10_ranges.specs.Blocks.{start_of}
use Rattle.s10_ranges.specs.BlockList.{indices_of}
use Rattle.s10_ranges.specs.Order.{IsLeastIn}
use Rattle.s10_ranges.proofs.block_list.BlockList.least_of_blocks.Given as goal

abbrev pub invariant-loop-block : goal.invariant-loop-block
invariant-loop-block l = IsLeastIn (indices_of l.self) (start_of l.self.blocks.items l.start)
    (start_of l.self.blocks.items l.block) l.least
