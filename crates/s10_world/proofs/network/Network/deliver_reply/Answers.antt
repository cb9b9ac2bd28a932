use Rattle.std.proofs.Common.{◌≡◌, ℕ, ap, refl, Some, List, map, subst}
use Rattle.std.specs.Prelude.{slice_get}
use Rattle.std.specs.Slice.{IsItemAt}
use Rattle.s10_wire.specs.declared.frame.Frame.{Frame}
use Rattle.s10_ends.specs.Client.{ClientReceives}
use Rattle.s10_world.specs.Parts.{clients_of, replied_of, accepted_of, acceptance, world_state_of}
use Rattle.s10_world.proofs.Places.{lent, lent_mut}
use Rattle.s10_world.proofs.Sent.{one_more, accepts, leaves}
use Rattle.s10_world.proofs.network.Network.deliver_reply.Goals as goal

pub returns-in_default-receive : goal.returns-in_default-receive
returns-in_default-receive g c =
    let old = world_state_of g.B.Book.history g.B.Book.faults c.args.self.now in
    let frame = c.in-Some.frame.now in
    let there : slice_get (replied_of c.args.self.now) c.args.index ≡ Some frame =
    lent (replied_of c.args.self.now) c.args.index c.in-Some.frame
    (subst (λ (l : List Frame). IsItemAt l c.args.index (Some c.in-Some.frame))
    c.deref.ensures.value c.in-Some.ensures.lookup) in
    record {
      server = refl;
      ok = leaves old c.args.client c.args.index c.in-Some-get_mut.caller.now c.receive.new.self
          frame c.receive.result _
          (lent_mut (clients_of c.args.self.now) c.args.client c.in-Some-get_mut.caller
          c.in-Some-get_mut.ensures.item)
          there
          (subst (λ (b : List ℕ). ClientReceives c.in-Some-get_mut.caller.now b c.receive.result
          c.receive.new.self) c.bytes.ensures.bytes c.receive.ensures)
          c.in_default-receive.not-Accepted (ap (map acceptance) c.in_ok-reserve.ensures.items);
      err = tt;
    }

pub returns-clause-ok : goal.returns-clause-ok
returns-clause-ok g c =
    let old = world_state_of g.B.Book.history g.B.Book.faults c.args.self.now in
    let frame = c.in-Some.frame.now in
    let there : slice_get (replied_of c.args.self.now) c.args.index ≡ Some frame =
    lent (replied_of c.args.self.now) c.args.index c.in-Some.frame
    (subst (λ (l : List Frame). IsItemAt l c.args.index (Some c.in-Some.frame))
    c.deref.ensures.value c.in-Some.ensures.lookup) in
    let reply = c.in-Accepted.reply in
    accepts old c.args.client c.args.index c.in-Some-get_mut.caller.now c.receive.new.self frame
    reply _
    (lent_mut (clients_of c.args.self.now) c.args.client c.in-Some-get_mut.caller
    c.in-Some-get_mut.ensures.item)
    there
    (rw (← c.bytes.ensures.bytes) c.in-Accepted.ensures)
    (one_more acceptance (accepted_of c.args.self.now) c.reserve.new.self.items
    c.push_reserved.new.self.items (c.args.client, reply) c.push_reserved.ensures.items
    c.in_ok-reserve.ensures.items)
