use Rattle.std.proofs.Common.{◌≡◌, ◌≤◌, length}
use Rattle.std.specs.Prelude.{vec_len, vec_capacity}
use Rattle.s10_link.specs.declared.trace.Trace.{Trace}
use Rattle.s10_link.specs.Link.{LeadsTo, Receives}
use Rattle.s10_ends.specs.Turn.{Handles}
use Rattle.s10_ends.proofs.Batches.{ReceivesAll}
use Rattle.s10_ends.proofs.receiving.handle_batch.Given as goal

-- n datagrams were received.
abbrev pub invariant-loop-more : goal.invariant-loop-more
invariant-loop-more g l = record {
  room : l.fn.most ≤ vec_capacity l.taken;
  capacity : vec_capacity l.taken ≡ vec_capacity l.fn.taken;
  many : vec_len l.taken ≡ l._more;
  count : length l.taken.items ≡ l._more;
  takes : (begun : Trace) → Receives begun (g.L.Link.trace_of l.fn.link) l.fn.first
      → ReceivesAll (λ before after b answer. Handles g.B.Book.faults g.B.Book.honest
      g.B.Book.terms g.B.Book.history g.B.Book.committed g.B.Book.clean g.B.Book.may_find before
      after l.fn.day b answer)
      (begun, l.fn.server.book) l.taken.items (
        g.L.Link.trace_of l.link,
        l.server.book,
      );
  led : LeadsTo g.L.Link.step l.fn.link l.link;
}
