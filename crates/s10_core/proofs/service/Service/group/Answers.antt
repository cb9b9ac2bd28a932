use Rattle.std.proofs.Common.{rules}
use Rattle.s10_core.proofs.service.Service.group.Goals as goal

pub returns-in-86 : goal.returns-in-86
returns-in-86 c = search rules
