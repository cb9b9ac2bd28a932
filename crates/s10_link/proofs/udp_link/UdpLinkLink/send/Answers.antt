use Rattle.std.proofs.Common.{rules}
use Rattle.s10_link.proofs.udp_link.UdpLinkLink.send.Goals as goal

pub returns-in_default-clause-trace : goal.returns-in_default-clause-trace
returns-in_default-clause-trace c = search rules
