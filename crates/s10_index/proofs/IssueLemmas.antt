-- What is true of an identifier that a call issues: its range, and whether it was issued before.
use Rattle.std.proofs.Common.{◌≡◌, ℕ, ◌+◌, ◌≤◌, Bool, true, false, leb, List}
use Rattle.std.proofs.Common.{length, Some, sym, ap, ◌∙◌, subst}
use Rattle.std.specs.Prelude.{find, Contains, slice_get}
use Rattle.std.proofs.lemmas.Bool.{and_parts}
use Rattle.std.proofs.lemmas.List.Elements.{All-contains}
use Rattle.s10_core.specs.declared.id.Id.{Id}
use Rattle.s10_history.specs.declared.entry.Entry.{Entry}
use Rattle.s10_history.specs.declared.range.Range.{Range}
use Rattle.s10_history.specs.declared.issuance.Issuance.{Issuance}
use Rattle.s10_history.specs.Settings.{Terms}
use Rattle.s10_history.specs.History.{ranges_of, lies_in, overlaps}
use Rattle.s10_history.specs.Issues.{issues_at, id_at, is_issued, pick_of}
use Rattle.s10_book.specs.Rules.{IsLegal, MayFollow}
use Rattle.s10_book.proofs.Apart.{apart}
use Rattle.s10_book.proofs.Marks.{one_range}
use Rattle.s10_book.proofs.Own.{lies_picked, ordered}
use Rattle.s10_history.proofs.Numbering.{Contains-find, found_passes}
use Rattle.s10_ranges.specs.declared.lap.Lap.TheVariants.{First}
use Rattle.s10_ranges.specs.Laps.{lap_of}
use Rattle.s10_ranges.proofs.Turning.{pick_unissued}
use Rattle.s10_rows.specs.RowWrites.{issues_before}
use Rattle.s10_replay.proofs.CallIssues.{issue_at}

-- Whether the range has the identifier.
abbrev pub covers : Id → Range → Bool
covers x = overlaps x.service x.country x.serial x.serial

-- The range that is found has the identifier.
pub covering : (h : List Entry) (x : Id) (r : Range) → find (covers x) (ranges_of h) ≡ Some r
    → Contains (ranges_of h) r × (lies_in r x ≡ true)
covering h x r found = (
  Contains-find (covers x) (ranges_of h) r found,
  (and_parts (lies_in r x) (leb x.serial x.serial) (found_passes (covers x) (ranges_of h) r
      found)).0,
)

-- A range in its first lap issues an identifier that was never issued.
pub never_issued : (h : List Entry) (t : Terms) (e : Entry) (place : ℕ) (y : Issuance) (r : Range)
    → IsLegal h t → MayFollow h t e → slice_get (issues_at (1 + length h) e) place ≡ Some y
    → Contains (ranges_of h) r → lies_in r y.id ≡ true → lap_of (issues_before place h e) r ≡ First
    → is_issued (issues_before place h e) y.id ≡ false
never_issued h t e place y r legal may at there lies lap =
    let found = issue_at h t e (1 + length h) place y legal may at in
    let is : List Issuance = issues_before place h e in
    let from = found.2.picked in
    let P : Issuance → Type 0 = λ i. lies_in r i.id ≡ true in
    let same : from.range ≡ r =
    one_range (ranges_of h) from.range r found.0.1 (apart h t legal) from.there there
    (lies_picked h t e.request.customer e.day t.interval is found.0 legal from)
    (subst P found.1 lies) in
    let order : r.first ≤ r.last = All-contains (λ s. s.first ≤ s.last) (ranges_of h) r
    (ordered h t legal) there in
    let picked : id_at r (pick_of is r) ≡ y.id = ap (λ (s : Range). id_at s (pick_of is s))
    (sym same) ∙ from.picked ∙ ap (λ (i : Issuance). i.id) (sym found.1) in
    let Q : Id → Type 0 = λ x. is_issued is x ≡ false in
    subst Q picked (pick_unissued is r order lap)
