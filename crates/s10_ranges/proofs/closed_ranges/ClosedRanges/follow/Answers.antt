use Rattle.std.proofs.Common.{arith}
use Rattle.std.proofs.lemmas.Grind.{common_steps}
use Rattle.s10_ranges.proofs.closed_ranges.ClosedRanges.follow.Goals as goal

pub returns-in-Withdraw-Withdrawn : goal.returns-in-Withdraw-Withdrawn
returns-in-Withdraw-Withdrawn c = grind (arith, common_steps)
