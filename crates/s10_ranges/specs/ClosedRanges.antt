-- Defines when a set of numbers is that of the closed ranges of a history.
use Rattle.std.specs.Prelude.{◌≡◌, ℕ, ◌==◌, List}
use Rattle.std.specs.HashSet.{contains}
use Rattle.s10_history.specs.declared.entry.Entry.{Entry}
use Rattle.s10_history.specs.History.{is_closed}
use Rattle.s10_ranges.specs.declared.closed_ranges.ClosedRanges.{ClosedRanges}

-- The set has the numbers of the closed ranges of the history and no others.
abbrev pub HasClosed : ClosedRanges → List Entry → Type 0
HasClosed closed h = (num : ℕ) → contains (λ a b. a == b) closed.numbers num ≡ is_closed h num
