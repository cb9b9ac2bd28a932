-- The rows of serials that a statement selects, and the issue that they record.
use Rattle.std.proofs.Common.{◌≡◌, ℕ, ◌+◌, ◌≤◌, Bool, true, false, cond, pos, List, [], ◌∷◌, map}
use Rattle.std.proofs.Common.{Option, Some, None, refl, ap, ap₂, ◌∙◌, arith, subst}
use Rattle.std.specs.Prelude.{filter, All, option_to_list}
use Rattle.std.proofs.lemmas.Bool.{and_parts, and_from, leb-true, le-leb}
use Rattle.std.proofs.lemmas.Bool.Decides.{same_from_decides, Decides-int_eq}
use Rattle.std.proofs.lemmas.List.Elements.{All-nil, All-head, All-tail, All-append, All-filter}
use Rattle.std.proofs.lemmas.List.Elements.{All-weaker, filter_passes}
use Rattle.s10_core.specs.declared.id.Id.{Id}
use Rattle.s10_core.specs.Id.{IsId}
use Rattle.s10_wire.specs.declared.outcome.Outcome.TheVariants.{Drawn, DrawnMany}
use Rattle.s10_wire.specs.Datagrams.{IsOutcome}
use Rattle.s10_history.specs.declared.entry.Entry.{Entry}
use Rattle.s10_history.specs.declared.issue.Issue.{Issue}
use Rattle.s10_history.specs.declared.issuance.Issuance.{Issuance}
use Rattle.s10_history.specs.Issues.{issues_at, issues_from, issues_of, is_of, last_issuance_of}
use Rattle.s10_history.specs.Issues.{last_issues}
use Rattle.s10_book.proofs.Free.{id_equal}
use Rattle.s10_book.proofs.Spaced.{id_same}
use Rattle.s10_book.proofs.Carried.{issued_at}
use Rattle.s10_rows.specs.declared.serial_row.SerialRow.{SerialRow}
use Rattle.s10_core.specs.Pair.{pair_of}
use Rattle.s10_rows.specs.Tables.{serial_row}
use Rattle.s10_rows.specs.Selected.{IsCall, IsIssuance, is_within, issue_in_row}
use Rattle.s10_core.proofs.Pairs.{one_pair}
use Rattle.s10_replay.proofs.Tests.{one_number}
use Rattle.s10_replay.proofs.LastIssues.{last_of, All-last_issues}

-- The issuances of a call that has a row have rows: each part is in its bounds.
pub issues_at_fit : (arrival : ℕ) (e : Entry) → IsCall e → All IsIssuance (issues_at arrival e)
issues_at_fit arrival e call =
    issued_at IsIssuance e.request.customer e.request.number arrival e.outcome
    (λ d x is. let out : IsOutcome (Drawn d x) = subst IsOutcome is call.outcome in
    record { id = out.1; day = out.0; customer = call.request.0; number = call.request.1 })
    (λ d ids is.
    let out : IsOutcome (DrawnMany d ids) = subst IsOutcome is call.outcome in
    let made : Id → Issuance = λ x. record {
      id = x;
      day = d;
      customer = e.request.customer;
      number = e.request.number;
      arrival = arrival;
    } in
    All-weaker IsId (λ x. IsIssuance (made x)) (λ x right. record {
      id = right;
      day = out.0;
      customer = call.request.0;
      number = call.request.1;
    }) ids out.1.1)

issues_fit : (arrival : ℕ) (es : List Entry) → All IsCall es
    → All IsIssuance (issues_from arrival es)
issues_fit arrival [] calls = All-nil IsIssuance
issues_fit arrival (e ∷ es) calls =
    All-append IsIssuance (issues_at arrival e) (issues_from (arrival + 1) es)
    (issues_at_fit arrival e (All-head IsCall e es calls))
    (issues_fit (arrival + 1) es (All-tail IsCall e es calls))

-- The issuances of a history have rows.
pub issues_of_fit : (h : List Entry) → All IsCall h → All IsIssuance (issues_of h)
issues_of_fit h calls = issues_fit 1 h calls

same_ids : (x y : Id) → x.service ≡ y.service → x.serial ≡ y.serial → x.country ≡ y.country → x ≡ y
same_ids x y a b c = λ i. record { service = a i; serial = b i; country = c i }

abbrev is_row_of : Id → SerialRow → Bool
is_row_of x row = is_within (pos (pair_of x.service x.country)) (pos x.serial) (pos x.serial) row

row_of : (v : Bool) (i : Issuance) (x : Id) → IsId i.id → IsId x → is_row_of x (serial_row v i)
    ≡ true → i.id ≡ x
row_of v i x here there h =
    let a = and_parts _ _ h in
    let b = and_parts _ _ a.0 in
    let same : pair_of i.id.service i.id.country ≡ pair_of x.service x.country =
    one_number _ _
    ((Decides-int_eq (pos (pair_of i.id.service i.id.country))
    (pos (pair_of x.service x.country))).0 b.0) in
    let letters = one_pair i.id.service i.id.country x.service x.country here.service here.country
    there.service there.country same in
    let low : x.serial ≤ i.id.serial = leb-true x.serial i.id.serial b.1 in
    let high : i.id.serial ≤ x.serial = leb-true i.id.serial x.serial a.1 in
    same_ids i.id x letters.0 (omega arith) letters.1

of_itself : (v : Bool) (i : Issuance) → is_row_of i.id (serial_row v i) ≡ true
of_itself v i =
    let pair = pair_of i.id.service i.id.country in
    and_from _ _ (and_from _ _ ((Decides-int_eq (pos pair) (pos pair)).1 refl)
    (le-leb i.id.serial i.id.serial (omega arith)))
    (le-leb i.id.serial i.id.serial (omega arith))

-- The row of an issuance is the identifier's exactly if the issuance is.
pub row_of_is : (v : Bool) (i : Issuance) (x : Id) → IsId i.id → IsId x
    → is_row_of x (serial_row v i) ≡ is_of x i
row_of_is v i x here there =
    same_from_decides (is_row_of x (serial_row v i)) (is_of x i) (
      row_of v i x here there,
      λ e. let P : Id → Type 0 = λ y. is_row_of y (serial_row v i) ≡ true in
          subst P e (of_itself v i),
    )
    (id_equal i.id x, id_same i.id x)

image_at : {A B : Type 0} (f : A → B) (b : Bool) (x : A) (xs : List A)
    → cond b (f x ∷ map f xs) (map f xs) ≡ map f (cond b (x ∷ xs) xs)
image_at f true x xs = refl
image_at f false x xs = refl

-- An element passes in the image exactly if it passes before.
pub filter_image : {A B : Type 0} (p : B → Bool) (q : A → Bool) (f : A → B) (P : A → Type 0)
    → ((x : A) → P x → p (f x) ≡ q x) → (xs : List A) → All P xs → filter p (map f xs)
    ≡ map f (filter q xs)
filter_image p q f P same [] all = refl
filter_image p q f P same (x ∷ xs) all =
    ap₂ (λ b l. cond b (f x ∷ l) l) (same x (All-head P x xs all))
    (filter_image p q f P same xs (All-tail P x xs all))
    ∙ image_at f (q x) x (filter q xs)

-- The rows are the row of an issuance that records this issue, or none.
abbrev pub Tell : List SerialRow → Option Issue → Type 0
Tell rows None = rows ≡ []
Tell rows (Some issue) = (v : Bool)
    × ((i : Issuance) × (IsIssuance i × (rows ≡ serial_row v i ∷ []) × (issue ≡ issue_in_row v i)))

-- What is true of the elements that pass is true of the last of them.
pub last_passes : (P : Issuance → Type 0) (x : Id) (is : List Issuance) (i : Issuance) → All P is
    → last_issuance_of is x ≡ Some i → P i × (i.id ≡ x)
last_passes P x is i all last =
    let alone : filter (is_of x) (last_issues is) ≡ i ∷ [] = last_of is x
    ∙ ap option_to_list last in
    let Q : List Issuance → Type 0 = All (λ j. P j) in
    let R : List Issuance → Type 0 = All (λ j. is_of x j ≡ true) in
    let there : All P (i ∷ []) =
    subst Q alone (All-filter (is_of x) P (last_issues is) (All-last_issues P is all)) in
    let passes : All (λ j. is_of x j ≡ true) (i ∷ []) =
    subst R alone (filter_passes (is_of x) (last_issues is)) in
    (All-head P i [] there, id_equal i.id x (All-head (λ j. is_of x j ≡ true) i [] passes))
