use Rattle.std.proofs.Common.{rules}
use Rattle.s10_link.proofs.udp_link.UdpLink.bind.Goals as goal

pub returns-in-Ok-default-V4-clause-ok : goal.returns-in-Ok-default-V4-clause-ok
returns-in-Ok-default-V4-clause-ok g c = search rules
