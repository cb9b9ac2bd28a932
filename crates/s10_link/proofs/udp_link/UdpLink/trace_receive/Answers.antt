use Rattle.std.proofs.Common.{rules}
use Rattle.s10_link.proofs.udp_link.UdpLink.trace_receive.Goals as goal

pub returns-in-Ok-Some-clause-trace : goal.returns-in-Ok-Some-clause-trace
returns-in-Ok-Some-clause-trace c = search rules
