use Rattle.std.proofs.Common.{rules}
use Rattle.s10_world.specs.Parts.{clients_of}
use Rattle.s10_world.proofs.Places.{lent_mut}
use Rattle.s10_world.proofs.network.Network.give_up.Goals as goal

pub returns-clause-state : goal.returns-clause-state
returns-clause-state g c =
    let there = lent_mut (clients_of c.args.self.now) c.args.client c.in-Some.caller
    c.in-Some.ensures.item in
    rw there (search rules)
