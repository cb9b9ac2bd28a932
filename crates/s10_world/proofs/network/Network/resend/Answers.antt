use Rattle.std.proofs.Common.{◌≡◌, Some, subst, ap, ◌∙◌, List, [], ◌∷◌, ◌++◌}
use Rattle.std.specs.Prelude.{slice_get}
use Rattle.std.specs.Slice.{IsItemAt}
use Rattle.s10_wire.specs.declared.frame.Frame.{Frame}
use Rattle.s10_ends.specs.Client.{ClientState}
use Rattle.s10_world.specs.Parts.{clients_of, world_state_of}
use Rattle.s10_world.proofs.Places.{lent}
use Rattle.s10_world.proofs.Sent.{resent}
use Rattle.s10_world.proofs.network.Network.resend.Goals as goal

pub returns-clause-ok : goal.returns-clause-ok
returns-clause-ok g c =
    let there : slice_get (clients_of c.args.self.now) c.args.client ≡ Some c.in-Some.caller.now =
    lent (clients_of c.args.self.now) c.args.client c.in-Some.caller
    (subst (λ (l : List ClientState). IsItemAt l c.args.client (Some c.in-Some.caller))
    c.deref.ensures.value c.in-Some.ensures.lookup) in
    resent (world_state_of g.B.Book.history g.B.Book.faults c.args.self.now) c.args.client
    c.in-Some.caller.now c.in-Some-resend.frame _ there c.in-Some-resend.ensures
    (c.push_reserved.ensures.items ∙ ap (λ (l : List Frame). l ++ c.in-Some-resend.frame ∷ [])
    c.in_ok-reserve.ensures.items)
