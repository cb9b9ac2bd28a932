use Rattle.std.proofs.Common.{rules}
use Rattle.s10_history.proofs.range.Range.overlaps.Goals as goal

pub returns-else-value-2 : goal.returns-else-value-2
returns-else-value-2 c = search rules
