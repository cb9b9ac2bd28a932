use Rattle.std.proofs.Common.{rules}
use Rattle.s10_replay.proofs.derived_writes.issue_write.Goals as goal

pub returns-in-Before : goal.returns-in-Before
returns-in-Before c = search rules
