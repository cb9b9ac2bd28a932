use Rattle.std.proofs.Common.{rules}
use Rattle.s10_jobs.proofs.turn_line.write_turn.Goals as goal

pub returns-in-Ok-Dropped : goal.returns-in-Ok-Dropped
returns-in-Ok-Dropped g c = search rules
