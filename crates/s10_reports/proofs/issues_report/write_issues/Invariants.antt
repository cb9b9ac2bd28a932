use Rattle.std.proofs.Common.{◌≡◌, ◌+◌, take}
use Rattle.std.specs.Io.KnownBytes.{Appends}
use Rattle.s10_book.specs.Book.{Unchanged}
use Rattle.s10_reports.specs.Reports.{joined, issues_report}
use Rattle.s10_reports.proofs.Reporting.{issued_by}
use Rattle.s10_reports.proofs.issues_report.write_issues.Given as goal

-- The heading and the lines of the issuances of the calls so far were written.
abbrev pub invariant-loop-done : goal.invariant-loop-done
invariant-loop-done g l =
    record {
      faults : g.B.Book.faults l.book ≡ g.B.Book.faults l.fn.book;
      unchanged : Unchanged g.B.Book.history g.B.Book.committed g.B.Book.terms g.B.Book.honest
          g.B.Book.clean g.B.Book.may_find
          l.fn.book l.book;
      written : g.B.Book.honest l.book → Appends (g.W.Write.contents l.fn.out)
          (g.W.Write.contents l.out)
          (joined (take (issued_by l.report (g.B.Book.history l.fn.book) l.done + 1)
          (issues_report l.report (g.B.Book.history l.fn.book))));
    }
