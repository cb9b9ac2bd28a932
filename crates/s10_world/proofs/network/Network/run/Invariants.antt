use Rattle.std.proofs.Common.{◌≡◌, take}
use Rattle.s10_ends.specs.Server.{book_of}
use Rattle.s10_world.specs.World.{Steps}
use Rattle.s10_world.specs.Parts.{server_of, world_state_of}
use Rattle.s10_world.proofs.network.Network.run.Given as goal

abbrev pub invariant-loop-place : goal.invariant-loop-place
invariant-loop-place g l =
    let book = book_of (server_of l.fn.self) in
    let now = book_of (server_of l.self) in
    record {
      was_honest : g.B.Book.honest now → g.B.Book.honest book;
      same_terms : g.B.Book.honest now → g.B.Book.terms now ≡ g.B.Book.terms book;
      committed : g.B.Book.durable → g.B.Book.honest now → g.B.Book.committed book
          ≡ g.B.Book.history book → g.B.Book.committed now ≡ g.B.Book.history now;
      reached : g.B.Book.honest now
          → Steps (g.B.Book.terms book) (world_state_of g.B.Book.history g.B.Book.faults l.fn.self)
          (take l.place l.events) (world_state_of g.B.Book.history g.B.Book.faults l.self);
    }
