use Rattle.std.proofs.Common.{rules}
use Rattle.s10_host.proofs.files.checkpoint_and_close.Goals as goal

pub returns-in-Ok-clause-copied : goal.returns-in-Ok-clause-copied
returns-in-Ok-clause-copied c = search rules
