use Rattle.std.proofs.Common.{◌≡◌, ◌∙◌, ◌+◌, ◌++◌, ◌∷◌, [], sym, ap, subst, take}
use Rattle.std.proofs.lemmas.List.{take_more}
use Rattle.s10_history.specs.Settings.{Terms}
use Rattle.s10_ends.specs.Server.{book_of}
use Rattle.s10_world.specs.declared.event.Event.{Event}
use Rattle.s10_world.specs.World.{Step}
use Rattle.s10_world.specs.Parts.{server_of, world_state_of}
use Rattle.s10_world.proofs.Run.{Steps-push}
use Rattle.s10_world.proofs.network.Network.run.Goals as goal

pub returns-in_default-clause-memory : goal.returns-in_default-clause-memory
returns-in_default-clause-memory g c = λ h.
    let before = c.step.ensures.was_honest h in
    rw c.in_default.ensures.err.1 (c.loop-place.invariant.reached before)

pub loop-place-preserved : goal.loop-place-preserved
loop-place-preserved g c =
    let before = c.loop-place.invariant in
    let old = c.args.self.now in
    let book = book_of (server_of old) in
    record {
      was_honest = λ h. before.was_honest (c.step.ensures.was_honest h);
      same_terms = λ h. c.step.ensures.same_terms h
          ∙ before.same_terms (c.step.ensures.was_honest h);
      committed = λ lasting h whole. c.step.ensures.committed lasting h
          (before.committed lasting (c.step.ensures.was_honest h) whole);
      reached = λ h.
          let h0 = c.step.ensures.was_honest h in
          let event = c.index-events-place.result in
          let all : take (c.loop-place.place + 1) c.args.events.now ≡ take c.loop-place.place
          c.args.events.now ++ event ∷ [] =
          take_more c.args.events.now c.loop-place.place event c.loop-place-test.true
          ∙ ap (λ (e : Event). take c.loop-place.place c.args.events.now ++ e ∷ [])
          (sym c.index-events-place.is) in
          let mid = world_state_of g.B.Book.history g.B.Book.faults c.loop-place.self in
          let after = world_state_of g.B.Book.history g.B.Book.faults c.step.new.self in
          rw all (Steps-push (g.B.Book.terms book) (world_state_of g.B.Book.history g.B.Book.faults
          old) mid after (take c.loop-place.place c.args.events.now) event
          (before.reached h0) (subst (λ (t : Terms). Step t mid event after) (before.same_terms h0)
          (c.in-Ok.ensures.ok h)));
    }
