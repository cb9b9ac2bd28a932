-- Defines the marks of ranges, each with its lap.
use Rattle.std.specs.Prelude.{ℕ, ◌==◌, if◌then◌else◌, List}
use Rattle.s10_history.specs.declared.range.Range.{Range}
use Rattle.s10_history.specs.declared.issuance.Issuance.{Issuance}
use Rattle.s10_history.specs.Issues.{is_issued, id_at, pick_of, serial_after}
use Rattle.s10_ranges.specs.declared.lap.Lap.{Lap}
use Rattle.s10_ranges.specs.declared.lap.Lap.TheVariants.{First, Later}
use Rattle.s10_ranges.specs.declared.mark.Mark.{Mark}

-- A range is in its later lap if its last serial was issued.
abbrev pub lap_of : List Issuance → Range → Lap
lap_of is r = if is_issued is (id_at r r.last) then Later else First

-- The mark of a range is its pick with its lap.
abbrev pub mark_of : List Issuance → Range → Mark
mark_of is r = record { serial = pick_of is r; lap = lap_of is r }

-- The mark after the range issued a serial in that lap.
abbrev pub mark_after : Range → Lap → ℕ → Mark
mark_after r lap serial = record {
  serial = serial_after r serial;
  lap = if serial == r.last
      then Later else lap;
}
