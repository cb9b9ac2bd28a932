use Rattle.std.proofs.Common.{◌≤◌, ◌-◌}
use Rattle.s10_link.specs.Link.{LeadsTo}
use Rattle.s10_ends.specs.Composed.{IsBatch}
use Rattle.s10_jobs.specs.DayGuard.{guard_of, IsServedDay}
use Rattle.s10_jobs.proofs.Turning.{HasServed}
use Rattle.s10_jobs.proofs.turns.serve_turns.Given as goal

-- n turns were served, and their lines written.
abbrev pub invariant-loop-done : goal.invariant-loop-done
invariant-loop-done g l = record {
  few : l.done ≤ l.fn.options.count;
  served : HasServed (IsBatch g.B.Book.faults g.B.Book.honest g.B.Book.terms g.B.Book.history
      g.B.Book.committed g.B.Book.clean g.B.Book.may_find)
      (λ s day. IsServedDay g.B.Book.honest g.B.Book.history (guard_of l.fn.options) s.1 day)
      g.D.Days.gives l.fn.options.day
      g.E.Ending.says
      (g.L.Link.trace_of l.fn.link, l.fn.server.book) (g.L.Link.trace_of l.link, l.server.book)
      l.fn.days l.days l.fn.ends l.ends l.fn.options.senders
      (g.W.Write.contents l.fn.out) (g.W.Write.contents l.out) l.done;
  led : LeadsTo g.L.Link.step l.fn.link l.link;
}

abbrev pub decreases-loop-done : goal.decreases-loop-done
decreases-loop-done g l = l.fn.options.count - l.done
