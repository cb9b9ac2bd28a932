use Rattle.std.proofs.Common.{rules}
use Rattle.s10_schema.proofs.ledger_schema.is_apart.Goals as goal

pub returns-then-not-is_own_tree : goal.returns-then-not-is_own_tree
returns-then-not-is_own_tree c = search rules

pub returns-else-not-is_own_tree : goal.returns-else-not-is_own_tree
returns-else-not-is_own_tree c = search rules
