use Rattle.std.proofs.Common.{arith}
use Rattle.std.proofs.lemmas.Grind.{common_steps}
use Rattle.s10_schema.proofs.ledger_schema.are_indexes.Goals as goal

pub returns-then-is_index-2 : goal.returns-then-is_index-2
returns-then-is_index-2 c = grind (arith, common_steps)
