use Rattle.std.proofs.Common.{◌≡◌, ◌+◌, ◌-◌, ◌*◌, ◌^◌, ◌≤◌, length}
use Rattle.s10_history.specs.History.{ranges_of}
use Rattle.s10_history.specs.Issues.{issues_of}
use Rattle.s10_book.specs.Book.{Unchanged}
use Rattle.s10_book.specs.Rules.{is_free_range}
use Rattle.s10_book.proofs.Taking.{IsAt, drawn_on}
use Rattle.s10_book.proofs.draws.successive_draws.Given as goal

abbrev pub invariant-loop-held : goal.invariant-loop-held
invariant-loop-held g l =
    let history = g.B.Book.history l.fn.book in
    record {
      faults : g.B.Book.faults l.book ≡ g.B.Book.faults l.fn.book;
      unchanged : Unchanged g.B.Book.history g.B.Book.committed g.B.Book.terms g.B.Book.honest
          g.B.Book.clean g.B.Book.may_find
          l.fn.book l.book;
      interval : g.B.Book.honest l.book → l.interval ≡ (g.B.Book.terms l.fn.book).interval;
      few : length l.picks ≤ l.wanted;
      fewer : l.issued ≤ length l.picks;
      walk : g.B.Book.honest l.book
          → IsAt (ranges_of history) (is_free_range history l.held.holder l.held.service
          l.held.country l.day l.interval) (drawn_on l.day) l.day l.interval (issues_of history) l.wanted l.range l.issued l.picks;
    }

abbrev pub decreases-loop-held : goal.decreases-loop-held
decreases-loop-held g l = 17 * (2 ^ 32 - l.range.num) + (l.wanted - length l.picks)
