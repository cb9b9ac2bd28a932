use Rattle.std.proofs.Common.{rules}
use Rattle.s10_jobs.proofs.replaying.run_replay.Goals as goal

pub returns-in-Err : goal.returns-in-Err
returns-in-Err c = search rules
