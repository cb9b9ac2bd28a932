use Rattle.std.proofs.Common.{◌≡◌, true, false, sym, ◌∙◌}
use Rattle.s10_jobs.specs.Shown.{is_marked_reply}
use Rattle.s10_jobs.proofs.showing.show_datagram.Goals as goal

pub returns-then-is_reply : goal.returns-then-is_reply
returns-then-is_reply g c =
    let reply : is_marked_reply c.args.bytes.now ≡ true = sym c.is_reply.ensures
    ∙ c.if-is_reply.true in
    rw reply c.show_reply.ensures

pub returns-else-is_reply : goal.returns-else-is_reply
returns-else-is_reply g c =
    let request : is_marked_reply c.args.bytes.now ≡ false = sym c.is_reply.ensures
    ∙ c.if-is_reply.false in
    rw request c.show_request.ensures
