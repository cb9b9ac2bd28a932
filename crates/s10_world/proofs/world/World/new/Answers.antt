use Rattle.std.proofs.Common.{refl}
use Rattle.s10_world.proofs.world.World.new.Goals as goal

pub returns-clause-clients : goal.returns-clause-clients
returns-clause-clients g c = refl

pub returns-clause-server : goal.returns-clause-server
returns-clause-server g c = refl

pub returns-clause-asked : goal.returns-clause-asked
returns-clause-asked g c = c.new.ensures.items

pub returns-clause-replied : goal.returns-clause-replied
returns-clause-replied g c = c.new-2.ensures.items

pub returns-clause-submitted : goal.returns-clause-submitted
returns-clause-submitted g c = c.new-3.ensures.items

pub returns-clause-accepted : goal.returns-clause-accepted
returns-clause-accepted g c = c.new-4.ensures.items
