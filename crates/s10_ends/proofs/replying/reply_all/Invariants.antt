use Rattle.std.proofs.Common.{◌≡◌, ◌≤◌, ◌++◌, length, take}
use Rattle.std.specs.List.{AllZip}
use Rattle.std.specs.Prelude.{vec_len, vec_capacity}
use Rattle.s10_link.specs.Link.{LeadsTo}
use Rattle.s10_ends.specs.Server.{book_of}
use Rattle.s10_ends.specs.Turn.{AsksCommitted, Answers}
use Rattle.s10_ends.specs.Batch.{sends_of}
use Rattle.s10_ends.proofs.replying.reply_all.Given as goal

abbrev pub invariant-loop-next : goal.invariant-loop-next
invariant-loop-next g l = record {
  room : length l.taken ≤ vec_capacity l.turns;
  capacity : vec_capacity l.turns ≡ vec_capacity l.fn.turns;
  many : vec_len l.turns ≡ l.next-index;
  answers : AllZip (λ t turn. Answers (g.B.Book.honest (book_of l.fn.server))
      (AsksCommitted (g.B.Book.committed (book_of l.fn.server))
      (g.B.Book.history (book_of l.fn.server)))
      l.fn.commit_result t.from t.packet t.answer turn) (take l.next-index l.taken) l.turns.items;
  sends : g.L.Link.trace_of l.link
      ≡ g.L.Link.trace_of l.fn.link ++ sends_of (take l.next-index l.taken) l.turns.items;
  led : LeadsTo g.L.Link.step l.fn.link l.link;
}
