use Rattle.std.proofs.Common.{rules}
use Rattle.s10_cli.proofs.job_words.job_of.Goals as goal

pub returns-in-audit : goal.returns-in-audit
returns-in-audit c = search rules
