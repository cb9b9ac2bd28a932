use Rattle.std.proofs.Common.{◌≡◌, ◌≤◌, length, map, take}
use Rattle.std.specs.Prelude.{vec_len, vec_capacity}
use Rattle.s10_book.specs.Book.{Grows}
use Rattle.s10_ends.specs.Served.{Served}
use Rattle.s10_ends.specs.Runs.{dated, CountsAll}
use Rattle.s10_ends.specs.Stop.{StopsAfter}
use Rattle.s10_ends.proofs.server.Server.run.Given as goal

abbrev pub invariant-loop-delivery : goal.invariant-loop-delivery
invariant-loop-delivery g l = record {
  room : length l.deliveries ≤ vec_capacity l.answers;
  many : vec_len l.answers ≡ l.delivery-index;
  faults : CountsAll l.answers.items (g.B.Book.faults l.fn.self.book) (g.B.Book.faults l.self.book);
  was_honest : g.B.Book.honest l.self.book → g.B.Book.honest l.fn.self.book;
  same_terms : g.B.Book.honest l.self.book → g.B.Book.terms l.self.book
      ≡ g.B.Book.terms l.fn.self.book;
  stays_committed : g.B.Book.honest l.self.book → Grows (g.B.Book.committed l.fn.self.book)
      (g.B.Book.committed l.self.book);
  committed : g.B.Book.durable → g.B.Book.honest l.self.book → g.B.Book.committed l.fn.self.book
      ≡ g.B.Book.history l.fn.self.book → g.B.Book.committed l.self.book
      ≡ g.B.Book.history l.self.book;
  served : g.B.Book.honest l.self.book → Served (g.B.Book.history l.fn.self.book)
      (g.B.Book.terms l.fn.self.book) (map dated (take l.delivery-index l.deliveries))
      l.answers.items (g.B.Book.history l.self.book);
  stop : StopsAfter g.B.Book.terms g.B.Book.history g.B.Book.committed g.B.Book.honest
      g.B.Book.clean g.B.Book.may_find l.fn.self.book l.self.book
      (map dated (take l.delivery-index l.deliveries));
}
