use Rattle.std.proofs.Common.{rules}
use Rattle.s10_statements.proofs.writes.insert_if_closed.Goals as goal

pub returns-in-Some : goal.returns-in-Some
returns-in-Some c = search rules
