use Rattle.s10_host.proofs.Ending.{not_served, refused_ledger, served_over}
use Rattle.s10_host.proofs.serve.serve_on_disk.Goals as goal

pub returns-in-Ok : goal.returns-in-Ok
returns-in-Ok g c held found bind text =
    let end = c.end_closed.result in
    rw c.end_closed.ensures.link
    (served_over g.F.Disk held g.D.Days.gives bind c.args.at c.args.options c.args.days.now
    c.serve_over.new.days c.args.ends.now c.serve_over.new.ends c.args.connection
    c.in-Ok.ledger.connection c.in-Ok.ledger.committed (g.W.Write.contents c.args.out.now)
    (g.W.Write.contents c.serve_over.new.out) (g.W.Write.contents c.end_closed.new.out)
    c.in-Ok.done end.done end.resources.files c.in-Ok.link text found c.in-Ok.ensures.served
    c.end_closed.ensures.closed)

pub returns-in-Err : goal.returns-in-Err
returns-in-Err g c held found bind text =
    let refused = c.in-Err.refused in
    let end = c.end_refused.result in
    rw (← c.in-Err.ensures.silent)
    (not_served g.F.Disk held g.D.Days.gives bind c.args.at c.args.options c.args.days.now
    c.serve_over.new.days c.args.ends.now (g.W.Write.contents c.serve_over.new.out)
    (g.W.Write.contents c.end_refused.new.out) end.done end.resources.files
    end.resources.link text
    (refused_ledger g.F.Disk held c.args.connection refused.connection refused.refusal.fault
    (g.W.Write.contents c.serve_over.new.out) (g.W.Write.contents c.end_refused.new.out) end.done
    end.resources.files found c.in-Err.ensures.refused c.in-Err.ensures.left
    c.end_refused.ensures.committed c.end_refused.ensures.of c.end_refused.ensures.kept
    c.end_refused.ensures.printed) c.end_refused.ensures.unlinked)

pub end_refused-requires : goal.end_refused-requires
end_refused-requires g c = record { idle = c.in-Err.ensures.left.idle }
