use Rattle.std.proofs.Common.{rules}
use Rattle.s10_ends.proofs.batch.push_end.Goals as goal

pub returns-in-Err-clause-turns : goal.returns-in-Err-clause-turns
returns-in-Err-clause-turns c = search rules
