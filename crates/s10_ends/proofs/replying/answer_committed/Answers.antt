use Rattle.std.proofs.Common.{sym, append-nil}
use Rattle.s10_link.specs.Link.LeadsTo.{none}
use Rattle.s10_ends.proofs.replying.answer_committed.Goals as goal

pub returns-in-Dropped-clause-led : goal.returns-in-Dropped-clause-led
returns-in-Dropped-clause-led g c = none

pub returns-in-Faulted-clause-led : goal.returns-in-Faulted-clause-led
returns-in-Faulted-clause-led g c = none

pub returns-in-Dropped-clause-sends : goal.returns-in-Dropped-clause-sends
returns-in-Dropped-clause-sends g c =
    rw c.in-Dropped.is (sym (append-nil (g.L.Link.trace_of c.args.link.now)))

pub returns-in-Faulted-clause-sends : goal.returns-in-Faulted-clause-sends
returns-in-Faulted-clause-sends g c =
    rw c.in-Faulted.is (sym (append-nil (g.L.Link.trace_of c.args.link.now)))
