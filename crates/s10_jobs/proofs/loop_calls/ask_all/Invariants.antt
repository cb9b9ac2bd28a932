use Rattle.std.proofs.Common.{take}
use Rattle.s10_link.specs.Link.{LeadsTo}
use Rattle.s10_jobs.proofs.Looping.{HasDone}
use Rattle.s10_jobs.proofs.loop_calls.ask_all.Given as goal

-- The calls before this one were done.
abbrev pub invariant-loop-body : goal.invariant-loop-body
invariant-loop-body g l = record {
  done : HasDone l.fn.to l.fn.client l.client (take l.body-index l.bodies)
      (g.L.Link.trace_of l.fn.link) (g.L.Link.trace_of l.link) (g.W.Write.contents l.fn.out)
      (g.W.Write.contents l.out);
  led : LeadsTo g.L.Link.step l.fn.link l.link;
}
