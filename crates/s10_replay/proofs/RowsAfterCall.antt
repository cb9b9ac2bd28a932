-- The rows that a call writes after a history.
use Rattle.std.proofs.Common.{◌≡◌, ℕ, ◌+◌, Bool, false, List, [], ◌∷◌}
use Rattle.std.proofs.Common.{◌++◌, map, length, None, refl, sym, ap, ap₂, ◌∙◌}
use Rattle.s10_core.specs.declared.id.Id.{Id}
use Rattle.s10_wire.specs.declared.body.Body.{Body}
use Rattle.s10_wire.specs.declared.body.Body.TheVariants.{Grant, Void}
use Rattle.s10_wire.specs.declared.outcome.Outcome.{Outcome}
use Rattle.s10_wire.specs.declared.outcome.Outcome.TheVariants.{Granted, Voided}
use Rattle.s10_history.specs.declared.entry.Entry.{Entry}
use Rattle.s10_history.specs.declared.range.Range.{Range}
use Rattle.s10_history.specs.declared.issuance.Issuance.{Issuance}
use Rattle.s10_history.specs.History.{ranges_of, range_of_grant}
use Rattle.s10_history.specs.Issues.{issues_of, carried_by, last_issues, voids, voids_by}
use Rattle.s10_history.specs.Issues.{voided_after, pick_of}
use Rattle.s10_history.proofs.Push.{same_issues, same_ranges}
use Rattle.s10_rows.specs.Tables.{range_row, range_rows, serial_row, serial_rows}
use Rattle.s10_rows.specs.declared.serial_row.SerialRow.{SerialRow}
use Rattle.s10_rows.proofs.Replaced.{same_images}
use Rattle.s10_history.proofs.Voided.{same_voided}

pub same_range_rows : (h : List Entry) (e : Entry) → carried_by e.outcome ≡ []
    → range_of_grant (1 + length (ranges_of h)) e.request.body e.outcome ≡ None
    → range_rows h ≡ range_rows (h ++ e ∷ [])
same_range_rows h e none unmade =
    sym (ap₂ (λ (is : List Issuance) (rs : List Range). map (λ r. range_row (pick_of is r) r) rs)
    (same_issues h e none) (same_ranges h e unmade))

abbrev pub row_in : List Entry → Issuance → SerialRow
row_in h i = serial_row (voided_after i.arrival h i.id) i

pub same_row_in : (h : List Entry) (e : Entry) → ((x : Id) → voids x e ≡ false) → (i : Issuance)
    → row_in h i ≡ row_in (h ++ e ∷ []) i
same_row_in h e none i =
    ap (λ (b : Bool). serial_row b i) (sym (same_voided i.arrival h e i.id (none i.id)))

pub same_serial_rows : (h : List Entry) (e : Entry) → carried_by e.outcome ≡ []
    → ((x : Id) → voids x e ≡ false) → serial_rows h ≡ serial_rows (h ++ e ∷ [])
same_serial_rows h e none unvoided =
    same_images (row_in h) (row_in (h ++ e ∷ [])) (same_row_in h e unvoided)
    (last_issues (issues_of h))
    ∙ sym (ap (λ (is : List Issuance). map (row_in (h ++ e ∷ [])) (last_issues is))
    (same_issues h e none))

pub none_made : (num : ℕ) (b : Body) (o : Outcome) → ((n : ℕ) → ¬ (o ≡ Granted n))
    → range_of_grant num b o ≡ None
none_made num (Grant holder service country first last) (Granted n) other = absurd (other n refl)
none_made num b o other = refl

pub none_voided : (x : Id) (b : Body) (o : Outcome) → ¬ (o ≡ Voided) → voids_by x b o ≡ false
none_voided x (Void id) Voided other = absurd (other refl)
none_voided x b o other = refl
