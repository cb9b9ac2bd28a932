use Rattle.std.proofs.Common.{rules}
use Rattle.s10_host.proofs.opened_files.error_of.Goals as goal

pub returns-in-Busy-clause-busy : goal.returns-in-Busy-clause-busy
returns-in-Busy-clause-busy g c = search rules
