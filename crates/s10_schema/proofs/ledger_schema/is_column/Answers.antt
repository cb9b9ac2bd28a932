use Rattle.std.proofs.Common.{rules}
use Rattle.s10_schema.proofs.ledger_schema.is_column.Goals as goal

pub returns-then-matches : goal.returns-then-matches
returns-then-matches c = search rules
