use Rattle.std.proofs.Common.{rules}
use Rattle.s10_cli.proofs.buffered.flush_buffer.Goals as goal

pub returns : goal.returns
returns g c = search rules
