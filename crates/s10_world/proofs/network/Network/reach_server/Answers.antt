use Rattle.std.proofs.Common.{◌≤◌, List, [], ◌∷◌, ◌++◌, length, refl, ap, ◌∙◌, subst}
use Rattle.s10_wire.specs.declared.frame.Frame.{Frame}
use Rattle.s10_history.specs.Settings.{Terms}
use Rattle.s10_ends.specs.Server.{book_of}
use Rattle.s10_world.specs.Parts.{server_of, world_state_of}
use Rattle.s10_world.proofs.Sent.{reached_reply, reached_fault}
use Rattle.s10_world.proofs.network.Network.reach_server.Goals as goal

pub returns-in-Reply-clause-ok : goal.returns-in-Reply-clause-ok
returns-in-Reply-clause-ok g c = λ h.
    let book = book_of (server_of c.args.self.now) in
    let now = book_of c.handle.new.self in
    let few : length (g.B.Book.history now) ≤ (g.B.Book.terms book).limit =
    subst (λ (t : Terms). length (g.B.Book.history now) ≤ t.limit) (c.in-Reply.ensures.same_terms h)
    (g.met.B.Book.legal now h).few in
    reached_reply (world_state_of g.B.Book.history g.B.Book.faults c.args.self.now)
    (g.B.Book.terms book) c.args.bytes.now c.args.day c.in-Reply.frame (g.B.Book.history now)
    (g.B.Book.faults now) _
    (c.in-Reply.ensures.served h) few c.in-Reply.ensures.faults
    (c.push_reserved.ensures.items ∙ ap (λ (l : List Frame). l ++ c.in-Reply.frame ∷ [])
    c.in_ok-reserve.ensures.items)

pub returns-in-Faulted-clause-ok : goal.returns-in-Faulted-clause-ok
returns-in-Faulted-clause-ok g c = λ h.
    let now = book_of c.handle.new.self in
    rw c.in_ok-reserve.ensures.items
    (reached_fault (world_state_of g.B.Book.history g.B.Book.faults c.args.self.now)
    (g.B.Book.terms (book_of (server_of c.args.self.now))) c.args.bytes.now c.args.day
    c.in-Faulted.field-0 (g.B.Book.history now) (g.B.Book.faults now)
    (c.in-Faulted.ensures.served h) (c.in-Faulted.ensures.unchanged h) c.in-Faulted.ensures.faults)

pub returns-in_err-reserve-clause-was_honest : goal.returns-in_err-reserve-clause-was_honest
returns-in_err-reserve-clause-was_honest g c = λ h. h

pub returns-in_err-reserve-clause-same_terms : goal.returns-in_err-reserve-clause-same_terms
returns-in_err-reserve-clause-same_terms g c = λ h. refl

pub returns-in-Reply-clause-was_honest : goal.returns-in-Reply-clause-was_honest
returns-in-Reply-clause-was_honest g c = c.in-Reply.ensures.was_honest

pub returns-in-Reply-clause-same_terms : goal.returns-in-Reply-clause-same_terms
returns-in-Reply-clause-same_terms g c = c.in-Reply.ensures.same_terms

pub returns-in-Dropped-clause-was_honest : goal.returns-in-Dropped-clause-was_honest
returns-in-Dropped-clause-was_honest g c = c.in-Dropped.ensures.was_honest

pub returns-in-Dropped-clause-same_terms : goal.returns-in-Dropped-clause-same_terms
returns-in-Dropped-clause-same_terms g c = c.in-Dropped.ensures.same_terms

pub returns-in-Faulted-clause-was_honest : goal.returns-in-Faulted-clause-was_honest
returns-in-Faulted-clause-was_honest g c = c.in-Faulted.ensures.was_honest

pub returns-in-Faulted-clause-same_terms : goal.returns-in-Faulted-clause-same_terms
returns-in-Faulted-clause-same_terms g c = c.in-Faulted.ensures.same_terms

pub returns-in_err-reserve-clause-committed : goal.returns-in_err-reserve-clause-committed
returns-in_err-reserve-clause-committed g c = λ lasting h whole. whole

pub returns-in-Reply-clause-committed : goal.returns-in-Reply-clause-committed
returns-in-Reply-clause-committed g c = c.in-Reply.ensures.committed

pub returns-in-Dropped-clause-committed : goal.returns-in-Dropped-clause-committed
returns-in-Dropped-clause-committed g c = c.in-Dropped.ensures.committed

pub returns-in-Faulted-clause-committed : goal.returns-in-Faulted-clause-committed
returns-in-Faulted-clause-committed g c = c.in-Faulted.ensures.committed
