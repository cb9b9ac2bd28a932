use Rattle.std.proofs.Common.{take}
use Rattle.s10_ends.specs.Batch.{AllCommitted}
use Rattle.s10_ends.proofs.committing.has_pending_reply.Given as goal

abbrev pub invariant-loop-next : goal.invariant-loop-next
invariant-loop-next g l = record {
  committed : g.B.Book.honest l.fn.server.book → AllCommitted (g.B.Book.committed l.fn.server.book)
      (g.B.Book.history l.fn.server.book) (take l.next-index l.fn.taken);
}
