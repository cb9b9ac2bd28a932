use Rattle.std.proofs.Common.{rules}
use Rattle.s10_replay.proofs.replaying.may_follow.Goals as goal

pub returns-else-len-limit-clause-answer : goal.returns-else-len-limit-clause-answer
returns-else-len-limit-clause-answer c = search rules
