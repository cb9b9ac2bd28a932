use Rattle.std.proofs.Common.{◌++◌, ◌∷◌, [], ap, ◌∙◌}
use Rattle.s10_world.specs.Parts.{clients_of, world_state_of}
use Rattle.s10_world.proofs.Places.{lent_mut}
use Rattle.s10_world.proofs.Sent.{submit_refused, submit_taken}
use Rattle.s10_world.proofs.network.Network.submit.Goals as goal

pub returns-in_default-submit-clause-ok : goal.returns-in_default-submit-clause-ok
returns-in_default-submit-clause-ok g c =
    submit_refused (world_state_of g.B.Book.history g.B.Book.faults c.args.self.now) c.args.client
    c.args.body c.in-Some.caller.now c.submit.new.self c.in_default-submit.field-0
    c.reserve.new.self.items
    (lent_mut (clients_of c.args.self.now) c.args.client c.in-Some.caller c.in-Some.ensures.item)
    c.in_default-submit.ensures.refused c.in_default-submit.ensures.err
    c.in_ok-reserve.ensures.items

pub returns-clause-ok : goal.returns-clause-ok
returns-clause-ok g c =
    submit_taken (world_state_of g.B.Book.history g.B.Book.faults c.args.self.now) c.args.client
    c.args.body c.in-Some.caller.now c.submit.new.self c.in-Ok.request
    c.push_reserved.new.self.items
    (lent_mut (clients_of c.args.self.now) c.args.client c.in-Some.caller c.in-Some.ensures.item)
    c.in-Ok.ensures.refused c.in-Ok.ensures.ok.1 c.in-Ok.ensures.ok.0 (c.push_reserved.ensures.items
    ∙ ap (λ l. l ++ (c.args.client, c.in-Ok.request) ∷ []) c.in_ok-reserve.ensures.items)
