use Rattle.std.proofs.Common.{rules}
use Rattle.s10_jobs.proofs.checking.read.Goals as goal

pub returns-else-is_label-clause-ok : goal.returns-else-is_label-clause-ok
returns-else-is_label-clause-ok c = search rules

pub returns-else-is_label-clause-refused : goal.returns-else-is_label-clause-refused
returns-else-is_label-clause-refused c = search rules
