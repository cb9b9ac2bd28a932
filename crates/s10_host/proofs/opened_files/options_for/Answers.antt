use Rattle.std.proofs.Common.{rules}
use Rattle.s10_host.proofs.opened_files.options_for.Goals as goal

pub returns-clause-cache : goal.returns-clause-cache
returns-clause-cache c = search rules
