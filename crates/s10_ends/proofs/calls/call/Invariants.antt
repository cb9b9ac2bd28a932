use Rattle.std.proofs.Common.{◌≡◌}
use Rattle.s10_link.specs.Link.{LeadsTo}
use Rattle.s10_ends.specs.Client.{after_submit, next_request}
use Rattle.s10_ends.specs.Calls.{TriesInVain}
use Rattle.s10_ends.proofs.calls.call.Given as goal

-- n tries were made, and no reply was accepted.
abbrev pub invariant-loop-done : goal.invariant-loop-done
invariant-loop-done g l = record {
  tried : TriesInVain (l.fn.to, l.frame) (next_request l.fn.client l.fn.body)
      (g.L.Link.trace_of l.fn.link) l._done (g.L.Link.trace_of l.link);
  led : LeadsTo g.L.Link.step l.fn.link l.link;
  client : l.client ≡ after_submit l.fn.client l.fn.body;
}
