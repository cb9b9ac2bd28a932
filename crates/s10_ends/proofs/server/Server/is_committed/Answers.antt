use Rattle.s10_ends.proofs.Standing.{own_committed, nothing_committed}
use Rattle.s10_ends.proofs.server.Server.is_committed.Goals as goal

pub returns-in-Ok : goal.returns-in-Ok
returns-in-Ok g c = λ h. own_committed _ _ c.args.bytes.now c.in-Ok.request c.is_committed.result
    c.in-Ok.ensures.found (c.is_committed.ensures h)

pub returns-in-Err : goal.returns-in-Err
returns-in-Err g c = λ h. nothing_committed _ _ c.args.bytes.now c.in-Err.ensures.nothing
