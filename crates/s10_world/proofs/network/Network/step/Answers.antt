use Rattle.std.proofs.Common.{rules}
use Rattle.s10_world.proofs.network.Network.step.Goals as goal

pub returns-in-Strange-clause-ok : goal.returns-in-Strange-clause-ok
returns-in-Strange-clause-ok g c = λ h. rw (c.in-Strange.is, ← c.bytes.ensures.bytes)
    (c.reach_server.ensures.ok h)

pub returns-in-Submit-clause-ok : goal.returns-in-Submit-clause-ok
returns-in-Submit-clause-ok c = search rules

pub returns-in-ToServer-clause-ok : goal.returns-in-ToServer-clause-ok
returns-in-ToServer-clause-ok c = search rules
