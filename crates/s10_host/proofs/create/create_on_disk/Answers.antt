use Rattle.s10_host.proofs.Ending.{created, not_closed, not_created}
use Rattle.s10_host.proofs.create.create_on_disk.Goals as goal

pub returns-then-is_done : goal.returns-then-is_done
returns-then-is_done g c held found =
    let (book, made, put) = c.in-Ok.ensures.created in
    let end = c.end_closed-done.result in
    created g.F.Disk held c.args.settings c.args.connection book c.in-Ok.ledger.connection
    c.in-Ok.ledger.committed (g.W.Write.contents c.args.out.now)
    (g.W.Write.contents c.end_closed-done.new.out) (g.W.Write.contents c.write_created.new.out)
    end.done c.write_created.result end.resources.files found
    (c.is_done.ensures.0 c.if-is_done.true) made put c.end_closed-done.ensures.closed
    c.write_created.ensures

pub returns-else-is_done : goal.returns-else-is_done
returns-else-is_done g c held found =
    let (book, made, put) = c.in-Ok.ensures.created in
    let end = c.end_closed-done.result in
    not_closed g.F.Disk held c.args.settings c.args.connection book c.in-Ok.ledger.connection
    c.in-Ok.ledger.committed (g.W.Write.contents c.args.out.now)
    (g.W.Write.contents c.end_closed-done.new.out) end.done end.resources.files
    (λ done. absurd (let is = c.is_done.ensures.1 done in let isnt = c.if-is_done.false in cc)) made
    put c.end_closed-done.ensures.closed

pub returns-in-Err : goal.returns-in-Err
returns-in-Err g c held found =
    let refused = c.in-Err.refused in
    let end = c.end_refused.result in
    not_created g.F.Disk held c.args.settings c.args.connection refused.connection
    refused.refusal.fault (g.W.Write.contents c.args.out.now)
    (g.W.Write.contents c.end_refused.new.out) end.done end.resources.files found
    c.in-Err.ensures.refused c.in-Err.ensures.left c.end_refused.ensures.committed
    c.end_refused.ensures.of c.end_refused.ensures.kept c.end_refused.ensures.printed

pub end_refused-requires : goal.end_refused-requires
end_refused-requires g c = record { idle = c.in-Err.ensures.left.idle }
