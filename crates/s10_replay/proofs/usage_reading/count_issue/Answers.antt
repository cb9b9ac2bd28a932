use Rattle.std.proofs.Common.{rules}
use Rattle.s10_replay.proofs.usage_reading.count_issue.Goals as goal

pub returns-else-is_free-clause-free : goal.returns-else-is_free-clause-free
returns-else-is_free-clause-free c = search rules
