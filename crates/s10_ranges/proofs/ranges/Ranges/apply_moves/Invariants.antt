use Rattle.std.proofs.Common.{◌≡◌, List}
use Rattle.s10_history.specs.declared.entry.Entry.{Entry}
use Rattle.s10_history.specs.Settings.{Terms}
use Rattle.s10_history.specs.History.{ranges_of}
use Rattle.s10_history.specs.Issues.{issues_of}
use Rattle.s10_book.specs.Rules.{IsLegal, MayFollow}
use Rattle.s10_ranges.specs.Mirror.{MirrorsAt}
use Rattle.s10_ranges.specs.Moves.{AreMoves}
use Rattle.s10_book.proofs.Carrying.{issues_upto}
use Rattle.s10_ranges.proofs.ranges.Ranges.apply_moves.Given as goal

abbrev pub invariant-loop-next : goal.invariant-loop-next
invariant-loop-next l =
    record {
      marks : (h : List Entry) (t : Terms) (e : Entry) → IsLegal h t → MayFollow h t e
          → AreMoves h e l.moves → MirrorsAt (ranges_of h) (issues_of h) l.fn.self
          → MirrorsAt (ranges_of h) (issues_upto h e l.next-index) l.self;
      closed : l.self.closed ≡ l.fn.self.closed;
    }
