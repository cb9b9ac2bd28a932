use Rattle.std.proofs.Common.{rules}
use Rattle.s10_ranges.proofs.lookups.is_later.Goals as goal

pub returns-then-after-range : goal.returns-then-after-range
returns-then-after-range c = search rules
