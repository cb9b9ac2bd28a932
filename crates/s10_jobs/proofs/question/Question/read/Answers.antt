use Rattle.std.proofs.Common.{rules}
use Rattle.s10_jobs.proofs.question.Question.read.Goals as goal

pub returns-in_err-body-clause-refused : goal.returns-in_err-body-clause-refused
returns-in_err-body-clause-refused c = search rules
