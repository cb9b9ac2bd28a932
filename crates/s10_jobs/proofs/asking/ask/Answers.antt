use Rattle.std.proofs.Common.{rules}
use Rattle.s10_jobs.proofs.asking.ask.Goals as goal

pub returns-clause-asked : goal.returns-clause-asked
returns-clause-asked g c = search rules
