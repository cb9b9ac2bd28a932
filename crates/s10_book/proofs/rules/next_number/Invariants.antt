use Rattle.std.proofs.Common.{◌≡◌, ◌≤◌, ◌-◌, length}
use Rattle.s10_history.specs.History.{ranges_of}
use Rattle.s10_history.specs.declared.settings.TheConstants.{MAX_LIMIT}
use Rattle.s10_book.specs.Book.{Unchanged}
use Rattle.s10_book.proofs.rules.next_number.Given as goal

abbrev pub invariant-loop-low : goal.invariant-loop-low
invariant-loop-low g l =
    record {
      faults : g.B.Book.faults l.book ≡ g.B.Book.faults l.fn.book;
      unchanged : Unchanged g.B.Book.history g.B.Book.committed g.B.Book.terms g.B.Book.honest
          g.B.Book.clean g.B.Book.may_find
          l.fn.book l.book;
      few : l.high ≤ MAX_LIMIT;
      ordered : l.low ≤ l.high;
      between : g.B.Book.honest l.book → (l.low ≤ length (ranges_of (g.B.Book.history l.fn.book)))
          × (length (ranges_of (g.B.Book.history l.fn.book)) ≤ l.high);
    }

abbrev pub decreases-loop-low : goal.decreases-loop-low
decreases-loop-low g l = l.high - l.low
