use Rattle.s10_ranges.specs.BlockList.{indices_of}
use Rattle.s10_ranges.specs.Blocks.{position_of}
use Rattle.s10_ranges.proofs.HeldOrder.{held_apart}
use Rattle.s10_ranges.proofs.insertion.cursor_by_holder.Goals as goal

pub returns-clause-above : goal.returns-clause-above
returns-clause-above c = held_apart c.args.ranges.now (indices_of c.args.by_holder.now)
    c.args.range.now (position_of c.args.by_holder.now.blocks.items c.cursor_at.result)
    c.sort_key_of-held.result c.requires.sound c.requires.held c.requires.few c.requires.num
    c.sort_key_of-held.ensures c.cursor_at.ensures.above
