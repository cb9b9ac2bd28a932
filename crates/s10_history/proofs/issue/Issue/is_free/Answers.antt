use Rattle.std.proofs.Common.{rules}
use Rattle.s10_history.proofs.issue.Issue.is_free.Goals as goal

pub returns : goal.returns
returns c = search rules
