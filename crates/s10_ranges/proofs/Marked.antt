-- The mark that is held for a range of the history.
use Rattle.std.proofs.Common.{◌≡◌, ◌∙◌, ◌+◌, ◌-◌, ◌<◌, List, Some}
use Rattle.std.proofs.Common.{get_or, ap, ap₂, subst, arith}
use Rattle.std.specs.Prelude.{Contains, slice_get}
use Rattle.s10_history.specs.declared.entry.Entry.{Entry}
use Rattle.s10_history.specs.declared.range.Range.{Range}
use Rattle.s10_history.specs.declared.issuance.Issuance.{Issuance}
use Rattle.s10_history.specs.History.{ranges_of}
use Rattle.s10_history.specs.Issues.{issues_of}
use Rattle.s10_ranges.specs.declared.mark.Mark.{Mark}
use Rattle.s10_ranges.specs.declared.ranges.Ranges.{Ranges}
use Rattle.s10_ranges.specs.Mirror.{Mirrors, MirrorsAt}
use Rattle.s10_ranges.specs.Laps.{mark_of}
use Rattle.s10_ranges.specs.Sound.{AreSound}
use Rattle.std.proofs.lemmas.Option.{slice_get-map, slice_get-get_or}
use Rattle.std.specs.Option.{option_map}

abbrev pub made_part : (r : Ranges) (h : List Entry) → Mirrors r h
    → MirrorsAt (ranges_of h) (issues_of h) r
made_part r h m = record { ranges = m.ranges; marks = m.marks }

-- The number of a held range is one more than its index.
numbered : (r : Ranges) (rs : List Range) (is : List Issuance) (range : Range)
    → AreSound r.ranges.items → MirrorsAt rs is r → (there : Contains rs range)
    → range.num ≡ there.0 + 1
numbered r rs is range sound m there =
    let at = subst AreSound m.ranges sound there.0 range there.1 in
    let e : (get_or rs there.0 range).num ≡ range.num = ap (λ (x : Range). x.num) there.2 in
    omega (arith, at.num, e)

pub mark_above : (r : Ranges) (h : List Entry) (range : Range) → AreSound r.ranges.items
    → Mirrors r h → Contains (ranges_of h) range → 0 < range.num
mark_above r h range sound m there = let num = numbered r (ranges_of h) (issues_of h) range sound
    (made_part r h m) there in omega (arith, num)

-- The mark of a range is the one after the issuances.
pub mark_at_issues : (r : Ranges) (rs : List Range) (is : List Issuance) (range : Range)
    → AreSound r.ranges.items → MirrorsAt rs is r → Contains rs range
    → slice_get r.marks.items (range.num - 1) ≡ Some (mark_of is range)
mark_at_issues r rs is range sound m there =
    let num = numbered r rs is range sound m there in
    let f : Range → Mark = mark_of is in
    let place : range.num - 1 ≡ there.0 = omega (arith, num) in
    ap₂ slice_get m.marks place ∙ slice_get-map f rs there.0
    ∙ ap (option_map f) (slice_get-get_or rs there.0 range there.1)
    ∙ ap (λ (x : Range). Some (f x)) there.2

-- The mark of a range of a history is the history's.
pub mark_held : (r : Ranges) (h : List Entry) (range : Range) → AreSound r.ranges.items
    → Mirrors r h → Contains (ranges_of h) range → slice_get r.marks.items (range.num - 1)
    ≡ Some (mark_of (issues_of h) range)
mark_held r h range sound m there = mark_at_issues r (ranges_of h) (issues_of h) range sound
    (made_part r h m) there
