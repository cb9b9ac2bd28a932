use Rattle.std.proofs.Common.{rules}
use Rattle.s10_schema.proofs.closed_schema.is_closed_schema.Goals as goal

pub returns-then-has_closed : goal.returns-then-has_closed
returns-then-has_closed c = search rules
