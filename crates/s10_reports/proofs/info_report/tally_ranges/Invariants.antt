use Rattle.std.proofs.Common.{◌≡◌, ◌≤◌, ◌*◌, take}
use Rattle.s10_book.specs.Book.{Unchanged}
use Rattle.s10_history.specs.History.{ranges_of}
use Rattle.s10_reports.specs.Info.{tally_of}
use Rattle.s10_reports.proofs.info_report.tally_ranges.Given as goal

-- The ranges so far were counted. No number is larger than the calls that were made allow.
abbrev pub invariant-loop-done : goal.invariant-loop-done
invariant-loop-done g l =
    record {
      faults : g.B.Book.faults l.book ≡ g.B.Book.faults l.fn.book;
      unchanged : Unchanged g.B.Book.history g.B.Book.committed g.B.Book.terms g.B.Book.honest
          g.B.Book.clean g.B.Book.may_find
          l.fn.book l.book;
      ranges : l.tally.ranges ≤ l.done;
      closed : l.tally.closed ≤ l.done;
      used : l.tally.used ≤ l.done * 4294967295;
      voided : l.tally.voided ≤ l.done * 4294967295;
      free : l.tally.free ≤ l.done * 4294967295;
      tallied : g.B.Book.honest l.book → l.tally ≡ tally_of (g.B.Book.history l.fn.book) l.day
          (g.B.Book.terms l.fn.book).interval
          (take l.done (ranges_of (g.B.Book.history l.fn.book)));
    }
