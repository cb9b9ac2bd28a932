use Rattle.std.proofs.Common.{rules}
use Rattle.s10_reports.proofs.states.state.Goals as goal

pub returns-in_default : goal.returns-in_default
returns-in_default c = search rules
