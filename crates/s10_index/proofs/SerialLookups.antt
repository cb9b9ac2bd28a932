-- The row of an identifier is among the rows of serials.
use Rattle.std.proofs.Common.{◌≡◌, ◌∙◌, ℕ, zero, suc, Bool, true, false, cond, List, []}
use Rattle.std.proofs.Common.{◌∷◌, map, Option, Some, None, refl, sym, ap, subst}
use Rattle.std.proofs.Common.{arith}
use Rattle.std.specs.Prelude.{filter, Contains, slice_get, option_to_list}
use Rattle.std.specs.Option.{option_map}
use Rattle.std.proofs.lemmas.Option.{none-some, same_Some, slice_get-map, slice_get-get_or}
use Rattle.std.proofs.lemmas.Option.{slice_get_within, get_or_from_slice_get}
use Rattle.std.proofs.lemmas.List.Elements.{All-contains}
use Rattle.s10_core.specs.declared.id.Id.{Id}
use Rattle.s10_core.specs.Id.{IsId}
use Rattle.s10_history.specs.declared.entry.Entry.{Entry}
use Rattle.s10_history.specs.declared.issuance.Issuance.{Issuance}
use Rattle.s10_history.specs.Issues.{issues_of, is_of, last_issues, last_issuance_of, voided_after}
use Rattle.s10_book.proofs.Carried.{Contains-filter}
use Rattle.s10_book.proofs.Spaced.{id_same}
use Rattle.s10_replay.proofs.LastIssues.{last_of, All-last_issues}
use Rattle.s10_replay.proofs.RowsAfterCall.{row_in}
use Rattle.s10_replay.proofs.SerialRows.{last_passes}
use Rattle.s10_rows.specs.declared.serial_row.SerialRow.{SerialRow}
use Rattle.s10_rows.specs.Tables.{serial_rows, serial_row}
use Rattle.s10_index.specs.RowId.{NamesId}
use Rattle.s10_index.specs.IssueLog.{HaveIds}
use Rattle.s10_index.specs.RowsFrom.{serial_row_of}

pub at_index : {A : Type 0} (xs : List A) (x : A) → Contains xs x → (k : ℕ) × (slice_get xs k ≡ Some x)
at_index xs x (k, lt, is) = (k, slice_get-get_or xs k x lt ∙ ap Some is)

pub from_index : {A : Type 0} (xs : List A) (x : A) (k : ℕ) → slice_get xs k ≡ Some x → Contains xs x
from_index xs x k at = (k, slice_get_within xs k x at, get_or_from_slice_get xs k x x at)

image_of : {A B : Type 0} (f : A → B) (o : Option A) (y : B) → option_map f o ≡ Some y → (x : A)
    × (o ≡ Some x) × (f x ≡ y)
image_of f None y is = absurd (none-some y is)
image_of f (Some x) y is = (x, refl, same_Some (f x) y is)

-- What is among the images is the image of an element.
among_images : {A B : Type 0} (f : A → B) (xs : List A) (y : B) → Contains (map f xs) y → (x : A)
    × Contains xs x × (f x ≡ y)
among_images f xs y among =
    let at = at_index (map f xs) y among in
    let from = image_of f (slice_get xs at.0) y (sym (slice_get-map f xs at.0) ∙ at.1) in
    (from.0, from_index xs from.0 at.0 from.1, from.2)

image_among : {A B : Type 0} (f : A → B) (xs : List A) (x : A) → Contains xs x
    → Contains (map f xs) (f x)
image_among f xs x among =
    let at = at_index xs x among in
    from_index (map f xs) (f x) at.0 (slice_get-map f xs at.0 ∙ ap (option_map f) at.1)

-- What passes is among the elements that pass.
passes_among : {A : Type 0} (p : A → Bool) (xs : List A) (x : A) (k : ℕ) → slice_get xs k ≡ Some x
    → p x ≡ true → (j : ℕ) × (slice_get (filter p xs) j ≡ Some x)
passes_among p [] x k at passes = absurd (none-some x at)
passes_among p (y ∷ ys) x zero at passes =
    let here : p y ≡ true = ap p (same_Some y x at) ∙ passes in
    (0, ap (λ (b : Bool). slice_get (cond b (y ∷ filter p ys) (filter p ys)) 0) here ∙ at)
passes_among p (y ∷ ys) x (suc k) at passes =
    later (p y) (passes_among p ys x k at passes)
  where
    later : (b : Bool) → (j : ℕ) × (slice_get (filter p ys) j ≡ Some x) → (j : ℕ)
        × (slice_get (cond b (y ∷ filter p ys) (filter p ys)) j ≡ Some x)
    later true (j, is) = (suc j, is)
    later false (j, is) = (j, is)

one_of : {A : Type 0} (o : Option A) (x : A) (j : ℕ) → slice_get (option_to_list o) j ≡ Some x
    → o ≡ Some x
one_of None x j at = absurd (none-some x at)
one_of (Some y) x zero at = at
one_of (Some y) x (suc j) at = absurd (none-some x at)

abbrev row_for : List Entry → Id → Issuance → SerialRow
row_for h x i = serial_row (voided_after i.arrival h x) i

-- The row of an identifier is in the table.
pub row_there : (h : List Entry) (x : Id) (row : SerialRow) → serial_row_of h x ≡ Some row
    → Contains (serial_rows h) row
row_there h x row is =
    let from = image_of (row_for h x) (last_issuance_of (issues_of h) x) row is in
    let i = from.0 in
    let lasts : List Issuance = last_issues (issues_of h) in
    let alone : filter (is_of x) lasts ≡ i ∷ [] = last_of (issues_of h) x
    ∙ ap option_to_list from.1 in
    let among : Contains lasts i = Contains-filter (is_of x) lasts i
    (subst (λ (l : List Issuance). Contains l i) (sym alone) (0, omega arith, refl)) in
    let own = last_passes (λ (j : Issuance). Unit {0}) x (issues_of h) i (λ k d lt. tt) from.1 in
    subst (Contains (serial_rows h)) (ap (λ (y : Id). row_for h y i) own.1 ∙ from.2)
    (image_among (row_in h) lasts i among)

-- A row of the table is the row of an identifier, which it names.
pub row_found : (h : List Entry) (row : SerialRow) → HaveIds (issues_of h)
    → Contains (serial_rows h) row → (i : Issuance) × IsId i.id × NamesId row i.id
    × (serial_row_of h i.id ≡ Some row)
row_found h row ids among =
    let from = among_images (row_in h) (last_issues (issues_of h)) row among in
    let i = from.0 in
    let at = at_index (last_issues (issues_of h)) i from.1 in
    let kept = passes_among (is_of i.id) (last_issues (issues_of h)) i at.0 at.1
    (id_same i.id i.id refl) in
    let last : last_issuance_of (issues_of h) i.id ≡ Some i =
    one_of (last_issuance_of (issues_of h) i.id) i kept.0
    (ap (λ (l : List Issuance). slice_get l kept.0) (sym (last_of (issues_of h) i.id)) ∙ kept.1) in (
      i,
      All-contains (λ (j : Issuance). IsId j.id) (last_issues (issues_of h)) i
          (All-last_issues (λ (j : Issuance). IsId j.id) (issues_of h) ids) from.1,
      record {
        pair = ap (λ (r : SerialRow). r.pair) (sym from.2);
        serial = ap (λ (r : SerialRow). r.serial) (sym from.2);
      },
      ap (option_map (row_for h i.id)) last ∙ ap Some from.2,
    )
