-- Defines how the issuances of a call move the marks of ranges.
use Rattle.std.specs.Prelude.{◌≡◌, ℕ, ◌+◌, ◌++◌, List, length, find, take, slice_get, Some}
use Rattle.s10_core.specs.declared.id.Id.{Id}
use Rattle.s10_history.specs.declared.entry.Entry.{Entry}
use Rattle.s10_history.specs.declared.range.Range.{Range}
use Rattle.s10_history.specs.declared.issuance.Issuance.{Issuance}
use Rattle.s10_history.specs.History.{ranges_of, overlaps}
use Rattle.s10_history.specs.Issues.{carried_by, issues_at, issues_of}
use Rattle.s10_ranges.specs.declared.mark_move.MarkMove.{MarkMove}
use Rattle.s10_ranges.specs.Laps.{lap_of, mark_after}

-- A move is that of an identifier's issuance if it has the range of the identifier, the lap after
-- the issuances before, and the mark after the serial.
pub record IsMoveOf (rs : List Range) (is : List Issuance) (x : Id) (m : MarkMove) : Type 0 where
  pub range : Range
  pub found : find (overlaps x.service x.country x.serial x.serial) rs ≡ Some range
  pub num : m.num ≡ range.num
  pub lap : m.lap ≡ lap_of is range
  pub mark : m.mark ≡ mark_after range m.lap x.serial

-- The moves are those of the issuances of the call after a history, in their order.
pub record AreMoves (h : List Entry) (e : Entry) (moves : List MarkMove) : Type 0 where
  pub count : length moves ≡ length (carried_by e.outcome)
  pub each : (place : ℕ) (i : Issuance) (m : MarkMove)
      → slice_get (issues_at (1 + length h) e) place ≡ Some i → slice_get moves place ≡ Some m
      → IsMoveOf (ranges_of h) (issues_of h ++ take place (issues_at (1 + length h) e)) i.id m
