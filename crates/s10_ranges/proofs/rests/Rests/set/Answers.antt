use Rattle.std.proofs.Common.{◌-◌, arith}
use Rattle.s10_ranges.proofs.Resting.{rests_set}
use Rattle.s10_ranges.proofs.rests.Rests.set.Goals as goal

pub returns : goal.returns
returns c h r was there num is =
    rests_set h c.args.self.now.list.items (c.args.num - 1) r c.args.rest was there
    (omega (arith, num, c.if-num-eq0.false)) is
