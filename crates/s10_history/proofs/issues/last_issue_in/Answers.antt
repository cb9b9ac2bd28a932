use Rattle.std.proofs.Common.{rules}
use Rattle.s10_history.proofs.issues.last_issue_in.Goals as goal

pub returns-in-Some : goal.returns-in-Some
returns-in-Some c = search rules
