use Rattle.std.proofs.Common.{◌≡◌, Some, List, refl, subst}
use Rattle.std.specs.Prelude.{slice_get}
use Rattle.std.specs.Slice.{IsItemAt}
use Rattle.s10_wire.specs.declared.frame.Frame.{Frame}
use Rattle.s10_world.specs.Parts.{asked_of}
use Rattle.s10_world.proofs.Places.{lent}
use Rattle.s10_world.proofs.network.Network.deliver_request.Goals as goal

pub returns-clause-ok : goal.returns-clause-ok
returns-clause-ok g c = λ h.
    let there : slice_get (asked_of c.args.self.now) c.args.index ≡ Some c.in-Some.frame.now =
    lent (asked_of c.args.self.now) c.args.index c.in-Some.frame
    (subst (λ (l : List Frame). IsItemAt l c.args.index (Some c.in-Some.frame))
    c.deref.ensures.value c.in-Some.ensures.lookup) in
    rw (there, ← c.bytes.ensures.bytes) (c.reach_server.ensures.ok h)

pub returns-in_default-clause-was_honest : goal.returns-in_default-clause-was_honest
returns-in_default-clause-was_honest g c = λ h. h

pub returns-in_default-clause-same_terms : goal.returns-in_default-clause-same_terms
returns-in_default-clause-same_terms g c = λ h. refl

pub returns-clause-was_honest : goal.returns-clause-was_honest
returns-clause-was_honest g c = c.reach_server.ensures.was_honest

pub returns-clause-same_terms : goal.returns-clause-same_terms
returns-clause-same_terms g c = c.reach_server.ensures.same_terms

pub returns-clause-err : goal.returns-clause-err
returns-clause-err g c = c.reach_server.ensures.err

pub returns-in_default-clause-committed : goal.returns-in_default-clause-committed
returns-in_default-clause-committed g c = λ lasting h whole. whole

pub returns-clause-committed : goal.returns-clause-committed
returns-clause-committed g c = c.reach_server.ensures.committed
