-- Defines when the ranges held in memory are those of a history.
use Rattle.std.specs.Prelude.{◌≡◌, List, map}
use Rattle.s10_history.specs.declared.entry.Entry.{Entry}
use Rattle.s10_history.specs.declared.range.Range.{Range}
use Rattle.s10_history.specs.declared.issuance.Issuance.{Issuance}
use Rattle.s10_history.specs.History.{ranges_of}
use Rattle.s10_history.specs.Issues.{issues_of}
use Rattle.s10_ranges.specs.declared.ranges.Ranges.{Ranges}
use Rattle.s10_ranges.specs.Laps.{mark_of}
use Rattle.s10_ranges.specs.ClosedRanges.{HasClosed}

-- Ranges mirror a list of ranges if they are equal to it, and each mark is the pick and lap after
-- the issues.
pub record MirrorsAt (rs : List Range) (is : List Issuance) (r : Ranges) : Type 0 where
  pub ranges : r.ranges.items ≡ rs
  pub marks : r.marks.items ≡ map (mark_of is) rs

-- Ranges mirror a history if they are its ranges, with the marks after its issues and its closed
-- ranges.
pub record Mirrors (r : Ranges) (h : List Entry) : Type 0 where
  pub ranges : r.ranges.items ≡ ranges_of h
  pub marks : r.marks.items ≡ map (mark_of (issues_of h)) (ranges_of h)
  pub closed : HasClosed r.closed h
