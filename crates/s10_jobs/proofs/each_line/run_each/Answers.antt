use Rattle.std.proofs.Common.{rules}
use Rattle.s10_jobs.proofs.each_line.run_each.Goals as goal

pub returns-in-Err : goal.returns-in-Err
returns-in-Err g c = search rules
