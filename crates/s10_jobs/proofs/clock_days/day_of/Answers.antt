use Rattle.std.proofs.Common.{rules}
use Rattle.s10_jobs.proofs.clock_days.day_of.Goals as goal

pub returns : goal.returns
returns c = search rules
