use Rattle.std.proofs.Common.{rules, sym, subst}
use Rattle.s10_book.proofs.Spaced.{spaced}
use Rattle.s10_ends.specs.Server.{book_of}
use Rattle.s10_world.specs.Parts.{server_of, clients_of, world_state_of}
use Rattle.s10_world.specs.Agreement.{HaveOwnNumbers}
use Rattle.s10_world.proofs.Kept.{run_sound}
use Rattle.s10_world.proofs.Told.{agrees, once}
use Rattle.s10_world.proofs.Unshared.{unshared}
use Rattle.s10_world.proofs.Clients.{run_own}
use Rattle.s10_ends.proofs.Runs.{KeepsPromises-legal}
use Rattle.s10_world.proofs.world.World.run.Goals as goal

pub invariant_of-self : goal.invariant_of-self
invariant_of-self g c = λ h. run_sound _ _ _ _ c.run.result (c.run.ensures.ok h)
    (c.run.ensures.memory h) (c.self.invariant (c.run.ensures.was_honest h))

pub returns-clause-kept : goal.returns-clause-kept
returns-clause-kept g c = λ h.
    let book = book_of (server_of c.run.new.self) in
    KeepsPromises-legal (g.B.Book.history book) (g.B.Book.terms book) (g.met.B.Book.legal book h)

pub returns-clause-agrees : goal.returns-clause-agrees
returns-clause-agrees g c = λ h.
    agrees (world_state_of g.B.Book.history g.B.Book.faults c.run.new.self)
    (run_sound _ _ _ _ c.run.result (c.run.ensures.ok h) (c.run.ensures.memory h)
    (c.self.invariant (c.run.ensures.was_honest h)))

pub returns-clause-once : goal.returns-clause-once
returns-clause-once g c = λ h.
    let book = book_of (server_of c.run.new.self) in
    once (world_state_of g.B.Book.history g.B.Book.faults c.run.new.self) (g.B.Book.terms book)
    (g.met.B.Book.legal book h)
    (run_sound _ _ _ _ c.run.result (c.run.ensures.ok h) (c.run.ensures.memory h)
    (c.self.invariant (c.run.ensures.was_honest h)))

pub returns-clause-unshared : goal.returns-clause-unshared
returns-clause-unshared g c = λ h apart.
    let book = book_of (server_of c.run.new.self) in
    unshared (world_state_of g.B.Book.history g.B.Book.faults c.run.new.self)
    (g.B.Book.terms book).interval (spaced (g.B.Book.history book) (g.B.Book.terms book)
    (g.met.B.Book.legal book h))
    (run_sound _ _ _ _ c.run.result (c.run.ensures.ok h) (c.run.ensures.memory h)
    (c.self.invariant (c.run.ensures.was_honest h)))
    (run_own _ _ _ _ c.run.result (c.run.ensures.ok h) (c.run.ensures.memory h)
    (subst (λ w. HaveOwnNumbers (clients_of w)) (sym c.self.view_is) apart))

pub returns-clause-ok : goal.returns-clause-ok
returns-clause-ok c = search rules
