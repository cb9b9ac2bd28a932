use Rattle.std.proofs.Common.{rules}
use Rattle.s10_jobs.proofs.answer_line.write_answer.Goals as goal

pub returns-in-Reply : goal.returns-in-Reply
returns-in-Reply g c = search rules
