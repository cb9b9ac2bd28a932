use Rattle.std.proofs.Common.{rules}
use Rattle.s10_wire.proofs.encoders.request_frame.Goals as goal

pub returns-clause-bytes : goal.returns-clause-bytes
returns-clause-bytes c = search rules
