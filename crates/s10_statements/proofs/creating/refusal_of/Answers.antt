use Rattle.std.proofs.Common.{rules, inr, refl}
use Rattle.s10_statements.proofs.creating.refusal_of.Goals as goal

pub returns-else-is_empty-clause-refusal : goal.returns-else-is_empty-clause-refusal
returns-else-is_empty-clause-refusal c = search rules

pub returns-else-is_empty-clause-fault : goal.returns-else-is_empty-clause-fault
returns-else-is_empty-clause-fault g c = inr refl
