use Rattle.std.proofs.Common.{◌≡◌, ◌≤◌}
use Rattle.s10_jobs.proofs.ReplayedLines.{HasReplayed}
use Rattle.s10_jobs.proofs.replaying.replay_on.Given as goal

-- The lines before this one were answered, and the remaining lines follow them.
abbrev pub invariant-loop-done : goal.invariant-loop-done
invariant-loop-done g l = record {
  few : l.count ≤ l.done;
  was_honest : g.B.Book.honest l.server.book → g.B.Book.honest l.fn.server.book;
  same_terms : g.B.Book.honest l.server.book → g.B.Book.terms l.server.book
      ≡ g.B.Book.terms l.fn.server.book;
  replayed : g.B.Book.honest l.server.book → HasReplayed (g.B.Book.history l.fn.server.book)
      (g.B.Book.terms l.fn.server.book)
      (g.R.Read.remaining l.fn.input) (g.R.Read.remaining l.input) (g.W.Write.contents l.fn.output)
      (g.W.Write.contents l.output) l.done l.count (g.B.Book.history l.server.book);
}
