use Rattle.std.proofs.Common.{rules}
use Rattle.s10_ranges.proofs.next_mark.next_mark.Goals as goal

pub returns-then-value : goal.returns-then-value
returns-then-value c = search rules
