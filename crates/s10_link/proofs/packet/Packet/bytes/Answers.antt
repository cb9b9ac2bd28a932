use Rattle.std.proofs.Common.{rules}
use Rattle.s10_link.proofs.packet.Packet.bytes.Goals as goal

pub returns-clause-bytes : goal.returns-clause-bytes
returns-clause-bytes c = search rules
