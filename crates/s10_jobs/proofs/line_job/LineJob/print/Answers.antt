use Rattle.std.proofs.Common.{rules}
use Rattle.s10_jobs.proofs.line_job.LineJob.print.Goals as goal

pub returns-in-Make : goal.returns-in-Make
returns-in-Make g c = search rules
