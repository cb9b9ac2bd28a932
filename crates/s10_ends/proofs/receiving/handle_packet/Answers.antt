use Rattle.std.proofs.Common.{List, ℕ, subst}
use Rattle.s10_ends.specs.Server.{book_of}
use Rattle.s10_ends.specs.Turn.{Handles}
use Rattle.s10_ends.proofs.receiving.handle_packet.Goals as goal

pub returns-clause-handles : goal.returns-clause-handles
returns-clause-handles g c =
    let P : List ℕ → Type 0 = λ b. Handles g.B.Book.faults g.B.Book.honest g.B.Book.terms
    g.B.Book.history g.B.Book.committed g.B.Book.clean g.B.Book.may_find (book_of c.args.server.now)
    (book_of c.handle.new.self)
    c.args.day b c.handle.result in
    subst P c.bytes.ensures.bytes (
    record {
      counts = c.handle.ensures.faults;
      dropped = c.handle.ensures.dropped;
      unasked = c.handle.ensures.unasked;
      was_honest = c.handle.ensures.was_honest;
      same_terms = c.handle.ensures.same_terms;
      served = c.handle.ensures.served;
      unchanged = c.handle.ensures.unchanged;
      stays_committed = c.handle.ensures.stays_committed;
      stop = c.handle.ensures.stop;
    })

pub returns-clause-whole : goal.returns-clause-whole
returns-clause-whole g c = c.handle.ensures.committed
