use Rattle.std.proofs.Common.{◌≡◌, length, take}
use Rattle.std.specs.Io.KnownBytes.{Appends}
use Rattle.s10_book.specs.Book.{Unchanged}
use Rattle.s10_history.specs.Issues.{issues_at}
use Rattle.s10_reports.specs.Reports.{joined, issue_lines}
use Rattle.s10_reports.proofs.issues_report.write_call.Given as goal

-- The lines of the issuances so far were written.
abbrev pub invariant-loop-place : goal.invariant-loop-place
invariant-loop-place g l =
    record {
      faults : g.B.Book.faults l.book ≡ g.B.Book.faults l.fn.book;
      unchanged : Unchanged g.B.Book.history g.B.Book.committed g.B.Book.terms g.B.Book.honest
          g.B.Book.clean g.B.Book.may_find
          l.fn.book l.book;
      written : g.B.Book.honest l.book → Appends (g.W.Write.contents l.fn.out)
          (g.W.Write.contents l.out)
          (joined (take (length (issue_lines l.report (g.B.Book.history l.fn.book)
          (take l.place (issues_at l.arrival l.entry))))
          (issue_lines l.report (g.B.Book.history l.fn.book) (issues_at l.arrival l.entry))));
    }
