use Rattle.std.proofs.Common.{rules}
use Rattle.s10_ranges.proofs.order.least.Goals as goal

pub returns : goal.returns
returns c = search rules
