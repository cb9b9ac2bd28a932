use Rattle.std.proofs.Common.{◌≡◌}
use Rattle.s10_link.specs.Link.{LeadsTo}
use Rattle.s10_ends.proofs.Listening.{Hearing}
use Rattle.s10_ends.proofs.calls.first_accepted.Given as goal

-- n datagrams were received, and no reply was accepted.
abbrev pub invariant-loop-read : goal.invariant-loop-read
invariant-loop-read g l = record {
  hearing : Hearing l.fn.client (g.L.Link.trace_of l.fn.link) (g.L.Link.trace_of l.link) l._read;
  led : LeadsTo g.L.Link.step l.fn.link l.link;
  client : l.client ≡ l.fn.client;
}
