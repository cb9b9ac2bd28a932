use Rattle.std.proofs.Common.{inl, inr, subst, sym}
use Rattle.s10_host.proofs.Ending.{refused_ledger, reported_over}
use Rattle.s10_host.proofs.report.report_on_disk.Goals as goal

pub returns-in-Ok : goal.returns-in-Ok
returns-in-Ok g c held found =
    let end = c.end_closed.result in
    inr (reported_over g.F.Disk held c.args.report c.args.connection c.in-Ok.ledger.connection
    c.in-Ok.ledger.committed (g.W.Write.contents c.args.out.now)
    (g.W.Write.contents c.report_over.new.out) (g.W.Write.contents c.end_closed.new.out)
    c.in-Ok.done end.done end.resources.files found c.in-Ok.ensures.reported
    c.end_closed.ensures.closed)

pub returns-in-Err : goal.returns-in-Err
returns-in-Err g c held found =
    let refused = c.in-Err.refused in
    let end = c.end_refused.result in
    rw (← c.in-Err.ensures.silent)
    (inl (refused_ledger g.F.Disk held c.args.connection refused.connection refused.refusal.fault
    (g.W.Write.contents c.report_over.new.out) (g.W.Write.contents c.end_refused.new.out) end.done
    end.resources.files found c.in-Err.ensures.refused c.in-Err.ensures.left
    c.end_refused.ensures.committed c.end_refused.ensures.of c.end_refused.ensures.kept
    c.end_refused.ensures.printed))

pub end_refused-requires : goal.end_refused-requires
end_refused-requires g c = record { idle = c.in-Err.ensures.left.idle }
