use Rattle.std.proofs.Common.{◌∙◌}
use Rattle.s10_ranges.proofs.closed_ranges.ClosedRanges.reserve.Goals as goal

pub returns-clause-same : goal.returns-clause-same
returns-clause-same c h has num = c.reserve.ensures.keys.2 num ∙ has num
