-- The parts of a link over a socket that its contracts use.
use Rattle.std.specs.Prelude.{◌≡◌, ◌≢◌}
use Rattle.s10_link.specs.declared.peer.Peer.{Peer}
use Rattle.s10_link.specs.declared.trace.Trace.{Trace}

-- The address to which the socket is bound, and the trace of the link.
pub record BoundLink : Type 0 where
  pub at : Peer
  pub trace : Trace

-- A socket asked for at the first address is bound at the second. For port 0 the system picks the
-- port.
pub record IsBoundAt (asked bound : Peer) : Type 0 where
  pub ip : bound.ip ≡ asked.ip
  pub port : asked.port ≢ 0 → bound.port ≡ asked.port
