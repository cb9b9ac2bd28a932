use Rattle.std.proofs.Common.{rules, sym, append-nil}
use Rattle.s10_link.specs.Link.LeadsTo.{none}
use Rattle.s10_ends.proofs.replying.send_committed.Goals as goal

pub returns-in-Err-clause-answers : goal.returns-in-Err-clause-answers
returns-in-Err-clause-answers c = search rules

pub returns-in-Err-clause-sends : goal.returns-in-Err-clause-sends
returns-in-Err-clause-sends g c = sym (append-nil (g.L.Link.trace_of c.args.link.now))

pub returns-in-Err-clause-led : goal.returns-in-Err-clause-led
returns-in-Err-clause-led g c = none
