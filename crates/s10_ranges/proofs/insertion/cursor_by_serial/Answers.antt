use Rattle.s10_ranges.specs.BlockList.{indices_of}
use Rattle.s10_ranges.specs.Blocks.{position_of}
use Rattle.s10_ranges.proofs.Placing.{rising_last, placed_apart}
use Rattle.s10_ranges.proofs.insertion.cursor_by_serial.Goals as goal

pub cursor_at-requires-clause-rising : goal.cursor_at-requires-clause-rising
cursor_at-requires-clause-rising c = rising_last c.args.ranges.now (indices_of c.args.by_serial.now)
    c.requires.sound c.requires.placed

pub returns-clause-above : goal.returns-clause-above
returns-clause-above c = placed_apart c.args.ranges.now (indices_of c.args.by_serial.now)
    c.args.range.now (position_of c.args.by_serial.now.blocks.items c.cursor_at.result)
    c.sort_key_of-start.result c.requires.sound c.requires.placed
    c.parts_fit.ensures c.requires.proper c.requires.apart c.sort_key_of-start.ensures
    c.cursor_at.ensures.above
