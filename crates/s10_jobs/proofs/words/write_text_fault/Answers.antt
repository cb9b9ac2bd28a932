use Rattle.std.proofs.Common.{rules}
use Rattle.s10_jobs.proofs.words.write_text_fault.Goals as goal

pub returns-in-Digit : goal.returns-in-Digit
returns-in-Digit g c = search rules
