-- A range gives its serials in order, wrapping from last to first.
use Rattle.std.proofs.Common.{◌≡◌, ℕ, zero, suc, ◌+◌, ◌-◌, ◌<◌, ◌≤◌, Bool, true, false, cond, not}
use Rattle.std.proofs.Common.{eqb, ◌&&◌, ◌||◌, List, [], ◌∷◌, ◌++◌, map, Option, Some, None, refl}
use Rattle.std.proofs.Common.{sym, ap, ◌∙◌, ◌⊎◌, inl, inr, arith, subst, length, get_or, append-nil}
use Rattle.std.proofs.Common.{append_assoc}
use Rattle.std.specs.Prelude.{find, filter, fold, All, AllPairs, IsTrue, Contains, option_to_list}
use Rattle.std.specs.Prelude.{slice_get}
use Rattle.std.specs.List.{list_any, range_with_len}
use Rattle.std.proofs.lemmas.Bool.{both_ways, true≢false, false≢true, cases_Bool, cases_eq}
use Rattle.std.proofs.lemmas.Bool.{cases_order, eq-eqb, ne_eqb, not-false, not_from_true, and_parts}
use Rattle.std.proofs.lemmas.Bool.{and_cases, and_left, and_right, or_left, or_right, or_from}
use Rattle.std.proofs.lemmas.Bool.{false_from_ne_true}
use Rattle.std.proofs.lemmas.Option.{none-some, same_Some, slice_get-get_or}
use Rattle.std.proofs.lemmas.List.Folds.{list_any-append, list_any_none, list_any_at}
use Rattle.std.proofs.lemmas.List.Elements.{All-nil, All-push, All-head, All-tail, All-weaker}
use Rattle.std.proofs.lemmas.List.Elements.{filter-append, Contains-push_cases}
use Rattle.std.specs.Option.{option_or, unwrap_or}
use Rattle.s10_core.specs.declared.id.Id.{Id}
use Rattle.s10_history.proofs.Earliest.{earliest_cons}
use Rattle.s10_wire.specs.declared.body.Body.{Body}
use Rattle.s10_wire.specs.declared.body.Body.TheVariants.{Grant}
use Rattle.s10_wire.specs.declared.outcome.Outcome.{Outcome}
use Rattle.s10_wire.specs.declared.outcome.Outcome.TheVariants.{Drawn, Granted}
use Rattle.s10_history.specs.declared.entry.Entry.{Entry}
use Rattle.s10_history.specs.declared.range.Range.{Range}
use Rattle.s10_history.specs.declared.issuance.Issuance.{Issuance}
use Rattle.s10_history.specs.Settings.{Terms}
use Rattle.s10_history.specs.History.{ranges_of, range_of_grant, lies_in}
use Rattle.s10_history.specs.Issues.{issues_of, carried_by, is_of, is_issued}
use Rattle.s10_history.specs.Issues.{serial_issued_earliest, serials, pick_of, id_at, serial_after}
use Rattle.s10_history.specs.Issues.{pick_after}
use Rattle.s10_book.specs.Rules.{IsLegal, MayFollow}
use Rattle.s10_history.proofs.Push.{ranges_from-push, issues_from-push, same_issues}
use Rattle.s10_book.proofs.Legal.{legal_induction}
use Rattle.s10_book.proofs.Apart.{Apart, apart, new_apart}
use Rattle.s10_book.proofs.Spaced.{id_same}
use Rattle.s10_book.proofs.Own.{lies_at, new_ordered, lies_picked}
use Rattle.s10_book.proofs.Carried.{made_by, InTurn, IsPicked, carried_call, after_call}
use Rattle.s10_book.proofs.Free.{id_equal, id_within}
use Rattle.s10_history.proofs.Voided.{or_none}

-- The issued serials of a range, in the order of their last issuances.
abbrev pub lasts : Range → List Issuance → List ℕ
lasts r [] = []
lasts r (i ∷ is) = cond (lies_in r i.id && not (is_issued is i.id)) (i.id.serial ∷ lasts r is)
    (lasts r is)

abbrev first_of : List ℕ → Option ℕ
first_of [] = None
first_of (x ∷ xs) = Some x

abbrev without : ℕ → List ℕ → List ℕ
without s xs = filter (λ k. not (eqb k s)) xs

oldest_step : (b : Bool) (s : ℕ) (o : Option ℕ) (l : List ℕ) → o ≡ first_of l → cond b (Some s) o
    ≡ first_of (cond b (s ∷ l) l)
oldest_step true s o l e = refl
oldest_step false s o l e = e

oldest_first : (r : Range) (is : List Issuance) → serial_issued_earliest r is
    ≡ first_of (lasts r is)
oldest_first r [] = refl
oldest_first r (i ∷ is) = earliest_cons r i is
    ∙ oldest_step (lies_in r i.id && not (is_issued is i.id)) i.id.serial
    (serial_issued_earliest r is) (lasts r is) (oldest_first r is)

-- In one range, identifiers are equal if their serials are.
serial_same : (r : Range) (x y : Id) → lies_in r x ≡ true → lies_in r y ≡ true → x.serial ≡ y.serial
    → x ≡ y
serial_same r x y lx ly e = sym (id_within r x lx) ∙ ap (id_at r) e ∙ id_within r y ly

issued_push : (is : List Issuance) (y : Issuance) (x : Id) → is_issued (is ++ y ∷ []) x
    ≡ (is_issued is x || (is_of x y || false))
issued_push is y x = list_any-append (is_of x) is (y ∷ [])

issued_same : (is : List Issuance) (y : Issuance) (x : Id) → is_of x y ≡ false
    → is_issued (is ++ y ∷ []) x ≡ is_issued is x
issued_same is y x no' = issued_push is y x ∙ ap (λ b. is_issued is x || (b || false)) no'
    ∙ or_none (is_issued is x) false refl

issued_now : (is : List Issuance) (y : Issuance) (x : Id) → is_of x y ≡ true
    → is_issued (is ++ y ∷ []) x ≡ true
issued_now is y x yes' = issued_push is y x ∙ or_right (is_issued is x) (is_of x y || false)
    (or_left (is_of x y) false yes')

-- How an issuance of s at the end changes a test at an issuance of k.
abbrev Changes : Bool → Bool → ℕ → ℕ → Type 0
Changes t' t k s = ((t' ≡ false) × (t ≡ false))
    ⊎ (((t' ≡ t) × (k ≡ s → ⊥)) ⊎ ((t' ≡ false) × (k ≡ s)))

push_step : (t' t : Bool) (s k : ℕ) (l l' : List ℕ) → l' ≡ without s l ++ s ∷ [] → Changes t' t k s
    → cond t' (k ∷ l') l' ≡ without s (cond t (k ∷ l) l) ++ s ∷ []
push_step false false s k l l' ih c = ih
push_step true true s k l l' ih c =
    elim c [
      | inl w ↦ absurd (true≢false w.0)
      | inr w ↦ elim w [
        | inl v ↦ rw (ne_eqb k s v.1) (ap (λ (m : List ℕ). k ∷ m) ih)
        | inr v ↦ absurd (true≢false v.0)
      ]
    ]
push_step true false s k l l' ih c =
    elim c [
      | inl w ↦ absurd (true≢false w.0)
      | inr w ↦ elim w [
        | inl v ↦ absurd (true≢false v.0)
        | inr v ↦ absurd (true≢false v.0)
      ]
    ]
push_step false true s k l l' ih c =
    elim c [
      | inl w ↦ absurd (true≢false w.1)
      | inr w ↦ elim w [
        | inl v ↦ absurd (false≢true v.0)
        | inr v ↦ rw (eq-eqb k s v.1) ih
      ]
    ]

changes : (r : Range) (i : Issuance) (is : List Issuance) (y : Issuance) → lies_in r y.id ≡ true
    → Changes (lies_in r i.id && not (is_issued (is ++ y ∷ []) i.id))
    (lies_in r i.id && not (is_issued is i.id)) i.id.serial y.id.serial
changes r i is y ly =
    elim (cases_Bool (lies_in r i.id)) [
      | inr out ↦ inl (
        and_left (lies_in r i.id) (not (is_issued (is ++ y ∷ []) i.id)) out,
        and_left (lies_in r i.id) (not (is_issued is i.id)) out,
      )
      | inl in' ↦ elim (cases_Bool (is_of i.id y)) [
        | inl same ↦ inr (inr (
          and_right (lies_in r i.id) (not (is_issued (is ++ y ∷ []) i.id))
              (not_from_true _ (issued_now is y i.id same)),
          ap (λ (x : Id). x.serial) (sym (id_equal y.id i.id same)),
        ))
        | inr other ↦ inr (inl (
          ap (λ b. lies_in r i.id && not b) (issued_same is y i.id other),
          λ e. both_ways (is_of i.id y) other
              (id_same y.id i.id (serial_same r y.id i.id ly in' (sym e))),
        ))
      ]
    ]

-- An issuance in the range moves its serial to the end.
lasts_inside : (r : Range) (is : List Issuance) (y : Issuance) → lies_in r y.id ≡ true
    → lasts r (is ++ y ∷ []) ≡ without y.id.serial (lasts r is) ++ y.id.serial ∷ []
lasts_inside r [] y ly = rw ly refl
lasts_inside r (i ∷ is) y ly = push_step _ _ y.id.serial i.id.serial (lasts r is)
    (lasts r (is ++ y ∷ [])) (lasts_inside r is y ly) (changes r i is y ly)

same_tests : (r : Range) (i : Issuance) (is : List Issuance) (y : Issuance) → lies_in r y.id ≡ false
    → (lies_in r i.id && not (is_issued (is ++ y ∷ []) i.id))
    ≡ (lies_in r i.id && not (is_issued is i.id))
same_tests r i is y ly =
    elim (cases_Bool (lies_in r i.id)) [
      | inr out ↦ and_left (lies_in r i.id) _ out ∙ sym (and_left (lies_in r i.id) _ out)
      | inl in' ↦ elim (cases_Bool (is_of i.id y)) [
        | inl same ↦
            let P : Id → Type 0 = λ x. lies_in r x ≡ true in
            absurd (both_ways (lies_in r y.id) ly (subst P (sym (id_equal y.id i.id same)) in'))
        | inr other ↦ ap (λ b. lies_in r i.id && not b) (issued_same is y i.id other)
      ]
    ]

-- An issuance outside the range changes nothing.
lasts_outside : (r : Range) (is : List Issuance) (y : Issuance) → lies_in r y.id ≡ false
    → lasts r (is ++ y ∷ []) ≡ lasts r is
lasts_outside r [] y ly = rw ly refl
lasts_outside r (i ∷ is) y ly =
    ap (λ b. cond b (i.id.serial ∷ lasts r (is ++ y ∷ [])) (lasts r (is ++ y ∷ [])))
    (same_tests r i is y ly)
    ∙ ap (λ l. cond (lies_in r i.id && not (is_issued is i.id)) (i.id.serial ∷ l) l)
    (lasts_outside r is y ly)

lasts_none : (r : Range) (is : List Issuance) → All (λ i. lies_in r i.id ≡ false) is
    → lasts r is ≡ []
lasts_none r [] all = refl
lasts_none r (i ∷ is) all =
    rw (and_left (lies_in r i.id) (not (is_issued is i.id)) (All-head (λ j. lies_in r j.id ≡ false)
    i is all)) (lasts_none r is (All-tail (λ j. lies_in r j.id ≡ false) i is all))

-- A serial was issued if it is among them.
issued_step : (t : Bool) (e rest : Bool) (k s : ℕ) (l : List ℕ)
    → rest ≡ list_any (λ (n : ℕ). eqb n s) l → (t ≡ true → e ≡ eqb k s)
    → (t ≡ false → e ≡ true → rest ≡ true) → (e || rest) ≡ list_any (λ (n : ℕ). eqb n s)
    (cond t (k ∷ l) l)
issued_step true e rest k s l ih here gone = ap (λ b. b || rest) (here refl)
    ∙ ap (λ b. eqb k s || b) ih
issued_step false true rest k s l ih here gone = sym (gone refl refl) ∙ ih
issued_step false false rest k s l ih here gone = ih

issued_lasts : (r : Range) (s : ℕ) (is : List Issuance) → lies_in r (id_at r s) ≡ true
    → is_issued is (id_at r s) ≡ list_any (λ (n : ℕ). eqb n s) (lasts r is)
issued_lasts r s [] ls = refl
issued_lasts r s (i ∷ is) ls = issued_step (lies_in r i.id && not (is_issued is i.id))
    (is_of (id_at r s) i) (is_issued is (id_at r s)) i.id.serial s (lasts r is)
    (issued_lasts r s is ls) here gone
  where
    here : (lies_in r i.id && not (is_issued is i.id)) ≡ true → is_of (id_at r s) i
        ≡ eqb i.id.serial s
    here t =
        let in' : lies_in r i.id ≡ true =
        (and_parts (lies_in r i.id) (not (is_issued is i.id)) t).0 in
        elim (cases_eq i.id.serial s) [
          | inl e ↦ id_same i.id (id_at r s) (serial_same r i.id (id_at r s) in' ls e)
              ∙ sym (eq-eqb i.id.serial s e)
          | inr ne ↦ false_from_ne_true (is_of (id_at r s) i) (λ same. ne
              (ap (λ (x : Id). x.serial) (id_equal i.id (id_at r s) same)))
              ∙ sym (ne_eqb i.id.serial s ne)
        ]

    gone : (lies_in r i.id && not (is_issued is i.id)) ≡ false → is_of (id_at r s) i ≡ true
        → is_issued is (id_at r s) ≡ true
    gone f e =
        let same : i.id ≡ id_at r s = id_equal i.id (id_at r s) e in
        let P : Id → Type 0 = λ x. lies_in r x ≡ true in
        let Q : Id → Type 0 = λ x. is_issued is x ≡ true in
        elim (and_cases (lies_in r i.id) (not (is_issued is i.id)) f) [
          | inl out ↦ absurd (both_ways (lies_in r i.id) out (subst P (sym same) ls))
          | inr no' ↦ subst Q same (not-false (is_issued is i.id) no')
        ]

-- A number is among consecutive numbers if it is in their range.
in_row : (low n s : ℕ) → low ≤ s → s < low + n
    → list_any (λ (k : ℕ). eqb k s) (range_with_len low n) ≡ true
in_row low zero s le lt = absurd (omega arith)
in_row low (suc n) s le lt =
    elim (cases_eq low s) [
      | inl e ↦ or_left (eqb low s) _ (eq-eqb low s e)
      | inr ne ↦ or_right (eqb low s) _ (in_row (low + 1) n s (omega arith) (omega arith))
    ]

not_in_row : (low n s : ℕ) → low + n ≤ s → list_any (λ (k : ℕ). eqb k s) (range_with_len low n)
    ≡ false
not_in_row low zero s le = refl
not_in_row low (suc n) s le = or_from (eqb low s) _ (ne_eqb low s (λ e. absurd (omega arith)))
    (not_in_row (low + 1) n s (omega arith))

row_push : (low n : ℕ) → range_with_len low (suc n) ≡ range_with_len low n ++ (low + n) ∷ []
row_push low zero = let e : low ≡ low + 0 = omega arith in ap (λ (k : ℕ). k ∷ []) e
row_push low (suc n) =
    let e : low + 1 + n ≡ low + suc n = omega arith in
    ap (λ (l : List ℕ). low ∷ l) (row_push (low + 1) n
    ∙ ap (λ (k : ℕ). range_with_len (low + 1) n ++ k ∷ []) e)

without_row : (s low n : ℕ) → (s < low) ⊎ (low + n ≤ s) → without s (range_with_len low n)
    ≡ range_with_len low n
without_row s low zero out = refl
without_row s low (suc n) out =
    let ne : low ≡ s → ⊥ =
    λ e. elim out [ inl w ↦ absurd (omega arith) | inr w ↦ absurd (omega arith) ] in
    let rest : (s < low + 1) ⊎ (low + 1 + n ≤ s) =
    elim out [ inl w ↦ inl (omega arith) | inr w ↦ inr (omega arith) ] in
    rw (ne_eqb low s ne) (ap (λ (l : List ℕ). low ∷ l) (without_row s (low + 1) n rest))

first_found : (p : ℕ → Bool) (low n len : ℕ) → ((s : ℕ) → low ≤ s → s < low + n → p s ≡ false)
    → p (low + n) ≡ true → n < len → find p (range_with_len low len) ≡ Some (low + n)
first_found p low n zero below here lt = absurd (omega arith)
first_found p low zero (suc len) below here lt =
    let e : low + 0 ≡ low = omega arith in
    let P : ℕ → Type 0 = λ k. p k ≡ true in
    let Q : ℕ → Type 0 = λ k. cond (p low) (Some low) (find p (range_with_len (low + 1) len))
    ≡ Some k in
    subst Q (sym e) (rw (subst P e here) refl)
first_found p low (suc n) (suc len) below here lt =
    let e : low + 1 + n ≡ low + suc n = omega arith in
    let P : ℕ → Type 0 = λ k. p k ≡ true in
    let Q : ℕ → Type 0 = λ k. find p (range_with_len (low + 1) len) ≡ Some k in
    rw (below low (omega arith) (omega arith))
    (subst Q e (first_found p (low + 1) n len (λ s le lt'. below s (omega arith) (omega arith))
    (subst P (sym e) here) (omega arith)))

none_found : (p : ℕ → Bool) (low len : ℕ) → ((s : ℕ) → low ≤ s → s < low + len → p s ≡ false)
    → find p (range_with_len low len) ≡ None
none_found p low zero all = refl
none_found p low (suc len) all = rw (all low (omega arith) (omega arith))
    (none_found p (low + 1) len (λ s le lt. all s (omega arith) (omega arith)))

-- The issued serials are those before the mark, or all of them, beginning with the one at the mark.
pub record Turns (r : Range) (is : List Issuance) (m : ℕ) : Type 0 where
  pub low : r.first ≤ m
  pub high : m ≤ r.last
  pub shape : (lasts r is ≡ range_with_len r.first (m - r.first))
      ⊎ (lasts r is ≡ range_with_len m (r.last + 1 - m) ++ range_with_len r.first (m - r.first))

pick_choice : (first : ℕ) (o f : Option ℕ) (m : ℕ) → (f ≡ Some m) ⊎ ((f ≡ None) × (o ≡ Some m))
    → unwrap_or (option_or f o) first ≡ m
pick_choice first o f m (inl e) = ap (λ g. unwrap_or (option_or g o) first) e
pick_choice first o f m (inr e) = ap (λ g. unwrap_or (option_or g o) first) e.0
    ∙ ap (λ g. unwrap_or g first) e.1

pub at_serial : (r : Range) (s : ℕ) → r.first ≤ s → s < r.first + (r.last + 1 - r.first)
    → lies_in r (id_at r s) ≡ true
at_serial r s le lt = lies_at r s (record { low = le; high = omega arith })

-- The pick is the mark.
pub pick_turns : (r : Range) (is : List Issuance) (m : ℕ) → Turns r is m → pick_of is r ≡ m
pick_turns r is m turns =
    pick_choice r.first (serial_issued_earliest r is)
    (find (λ serial. not (is_issued is (id_at r serial))) (serials r)) m
    (elim turns.shape [
      | inl w ↦
          let e : r.first + (m - r.first) ≡ m = omega (arith, turns.low) in
          let Q : ℕ → Type 0 = λ k. find (λ serial. not (is_issued is (id_at r serial))) (serials r)
          ≡ Some k in
          inl (subst Q e (first_found (λ serial. not (is_issued is (id_at r serial))) r.first
          (m - r.first) (r.last + 1 - r.first)
          (λ s le lt. not_from_true _
          (issued_lasts r s is (at_serial r s le (omega (arith, turns.high)))
          ∙ ap (list_any (λ (n : ℕ). eqb n s)) w ∙ in_row r.first (m - r.first) s le lt))
          (ap not (issued_lasts r (r.first + (m - r.first)) is
          (at_serial r (r.first + (m - r.first)) (omega arith)
          (omega (arith, turns.low, turns.high)))
          ∙ ap (list_any (λ (n : ℕ). eqb n (r.first + (m - r.first)))) w
          ∙ not_in_row r.first (m - r.first) (r.first + (m - r.first)) (omega arith)))
          (omega (arith, turns.low, turns.high))))
      | inr w ↦ inr (
        none_found (λ serial. not (is_issued is (id_at r serial))) r.first (r.last + 1 - r.first)
            (λ s le lt. not_from_true _ (issued_lasts r s is (at_serial r s le lt)
            ∙ ap (list_any (λ (n : ℕ). eqb n s)) w
            ∙ list_any-append (λ (n : ℕ). eqb n s) (range_with_len m (r.last + 1 - m))
            (range_with_len r.first (m - r.first)) ∙ in_either r m s le lt turns.low
            turns.high)),
        oldest_first r is ∙ ap first_of w ∙ head_of m (r.last + 1 - m)
            (range_with_len r.first (m - r.first)) (omega (arith, turns.high)),
      )
    ])
  where
    in_either : (r : Range) (m s : ℕ) → r.first ≤ s → s < r.first + (r.last + 1 - r.first)
        → r.first ≤ m → m ≤ r.last
        → (list_any (λ (n : ℕ). eqb n s) (range_with_len m (r.last + 1 - m))
        || list_any (λ (n : ℕ). eqb n s) (range_with_len r.first (m - r.first))) ≡ true
    in_either r m s le lt low high =
        elim (cases_order m s) [
          | inl e ↦ or_left _ _ (in_row m (r.last + 1 - m) s (omega arith) (omega arith))
          | inr w ↦ elim w [
            | inl up ↦ or_left _ _ (in_row m (r.last + 1 - m) s (omega arith) (omega arith))
            | inr down ↦ or_right
                (list_any (λ (n : ℕ). eqb n s) (range_with_len m (r.last + 1 - m))) _
                (in_row r.first (m - r.first) s le (omega arith))
          ]
        ]

    head_of : (low n : ℕ) (l : List ℕ) → 0 < n → first_of (range_with_len low n ++ l) ≡ Some low
    head_of low zero l lt = absurd (omega arith)
    head_of low (suc n) l lt = refl

pub turns_outside : (r : Range) (is : List Issuance) (y : Issuance) (m : ℕ) → lies_in r y.id ≡ false
    → Turns r is m → Turns r (is ++ y ∷ []) m
turns_outside r is y m ly turns =
    let P : List ℕ → Type 0 = λ l. (l ≡ range_with_len r.first (m - r.first))
    ⊎ (l ≡ range_with_len m (r.last + 1 - m) ++ range_with_len r.first (m - r.first)) in
    record {
      low = turns.low;
      high = turns.high;
      shape = subst P (sym (lasts_outside r is y ly))
          turns.shape;
    }

-- The serials before the mark, followed by the one at the mark.
row_to : (first m : ℕ) → first ≤ m → range_with_len first (m - first) ++ m ∷ []
    ≡ range_with_len first (m + 1 - first)
row_to first m le =
    let e : first + (m - first) ≡ m = omega arith in
    let f : m + 1 - first ≡ suc (m - first) = omega arith in
    ap (λ (k : ℕ). range_with_len first (m - first) ++ k ∷ []) (sym e)
    ∙ sym (row_push first (m - first)) ∙ ap (range_with_len first) (sym f)

-- The serials from the mark on, without the one at the mark.
row_from : (m n : ℕ) → without m (range_with_len m (suc n)) ≡ range_with_len (m + 1) n
row_from m n = rw (eq-eqb m m refl) (without_row m (m + 1) n (inl (omega arith)))

without_append : (s : ℕ) (xs ys : List ℕ) → without s (xs ++ ys) ≡ without s xs ++ without s ys
without_append s xs ys = filter-append (λ k. not (eqb k s)) xs ys

-- A range whose first serial is the mark, and all of whose serials were issued.
all_issued : (first last : ℕ) (l : List ℕ) → l ≡ range_with_len first (last + 1 - first)
    → l ≡ range_with_len first (last + 1 - first) ++ range_with_len first (first - first)
all_issued first last l e =
    let z : first - first ≡ 0 = omega arith in
    e ∙ sym (append-nil (range_with_len first (last + 1 - first)))
    ∙ ap (λ (n : ℕ). range_with_len first (last + 1 - first) ++ range_with_len first n) (sym z)

moved_low : (r : Range) (m : ℕ) (l : List ℕ) → r.first ≤ m
    → l ≡ range_with_len r.first (m - r.first) → without m l ++ m ∷ [] ≡ range_with_len r.first
    (m + 1 - r.first)
moved_low r m l low e = ap (λ (k : List ℕ). without m k ++ m ∷ []) e
    ∙ ap (λ (k : List ℕ). k ++ m ∷ []) (without_row m r.first (m - r.first) (inr (omega arith)))
    ∙ row_to r.first m low

moved_high : (r : Range) (m : ℕ) (l : List ℕ) → r.first ≤ m → m ≤ r.last
    → l ≡ range_with_len m (r.last + 1 - m) ++ range_with_len r.first (m - r.first)
    → without m l ++ m ∷ [] ≡ range_with_len (m + 1) (r.last - m) ++ range_with_len r.first
    (m + 1 - r.first)
moved_high r m l low high e =
    let n : r.last + 1 - m ≡ suc (r.last - m) = omega arith in
    ap (λ (k : List ℕ). without m k ++ m ∷ [])
    (e ∙ ap (λ (k : ℕ). range_with_len m k ++ range_with_len r.first (m - r.first)) n)
    ∙ ap (λ (k : List ℕ). k ++ m ∷ []) (without_append m (range_with_len m (suc (r.last - m)))
    (range_with_len r.first (m - r.first))
    ∙ ap (λ (k : List ℕ). k ++ without m (range_with_len r.first (m - r.first)))
    (row_from m (r.last - m))
    ∙ ap (λ (k : List ℕ). range_with_len (m + 1) (r.last - m) ++ k)
    (without_row m r.first (m - r.first) (inr (omega arith))))
    ∙ append_assoc (range_with_len (m + 1) (r.last - m)) (range_with_len r.first (m - r.first))
    (m ∷ [])
    ∙ ap (λ (k : List ℕ). range_with_len (m + 1) (r.last - m) ++ k) (row_to r.first m low)

moved : (r : Range) (m : ℕ) (l : List ℕ) → r.first ≤ m → m ≤ r.last
    → (l ≡ range_with_len r.first (m - r.first))
    ⊎ (l ≡ range_with_len m (r.last + 1 - m) ++ range_with_len r.first (m - r.first))
    → (without m l ++ m ∷ [] ≡ range_with_len r.first (m + 1 - r.first))
    ⊎ (without m l ++ m ∷ [] ≡ range_with_len (m + 1) (r.last - m) ++ range_with_len r.first
    (m + 1 - r.first))
moved r m l low high (inl e) = inl (moved_low r m l low e)
moved r m l low high (inr e) = inr (moved_high r m l low high e)

-- At the last serial, both forms are the same.
at_last : (r : Range) (m : ℕ) (l : List ℕ) → m ≡ r.last
    → (l ≡ range_with_len r.first (m + 1 - r.first))
    ⊎ (l ≡ range_with_len (m + 1) (r.last - m) ++ range_with_len r.first (m + 1 - r.first))
    → l ≡ range_with_len r.first (r.last + 1 - r.first)
at_last r m l e (inl is) = is ∙ ap (λ (k : ℕ). range_with_len r.first (k + 1 - r.first)) e
at_last r m l e (inr is) =
    let z : r.last - m ≡ 0 = omega arith in
    is ∙ ap (λ (k : ℕ). range_with_len (m + 1) k ++ range_with_len r.first (m + 1 - r.first)) z
    ∙ ap (λ (k : ℕ). range_with_len r.first (k + 1 - r.first)) e

before_last : (r : Range) (m : ℕ) (l : List ℕ) → (l ≡ range_with_len r.first (m + 1 - r.first))
    ⊎ (l ≡ range_with_len (m + 1) (r.last - m) ++ range_with_len r.first (m + 1 - r.first))
    → (l ≡ range_with_len r.first (m + 1 - r.first))
    ⊎ (l ≡ range_with_len (m + 1) (r.last + 1 - (m + 1)) ++ range_with_len r.first
    (m + 1 - r.first))
before_last r m l (inl is) = inl is
before_last r m l (inr is) =
    let n : r.last - m ≡ r.last + 1 - (m + 1) = omega arith in
    inr (is ∙ ap (λ (k : ℕ). range_with_len (m + 1) k ++ range_with_len r.first (m + 1 - r.first))
    n)

-- An issuance of the serial at the mark.
pub turns_inside : (r : Range) (is : List Issuance) (y : Issuance) (m : ℕ) → lies_in r y.id ≡ true
    → y.id.serial ≡ m → Turns r is m → Turns r (is ++ y ∷ []) (serial_after r m)
turns_inside r is y m ly e turns =
    let l : List ℕ = lasts r (is ++ y ∷ []) in
    let f : ℕ → List ℕ = λ k. without k (lasts r is) ++ k ∷ [] in
    let grown : l ≡ without m (lasts r is) ++ m ∷ [] = lasts_inside r is y ly ∙ ap f e in
    let P : List ℕ → Type 0 = λ x. (x ≡ range_with_len r.first (m + 1 - r.first))
    ⊎ (x ≡ range_with_len (m + 1) (r.last - m) ++ range_with_len r.first (m + 1 - r.first)) in
    let next : P (lasts r (is ++ y ∷ [])) =
    subst P (sym grown) (moved r m (lasts r is) turns.low turns.high turns.shape) in
    let T : ℕ → Type 0 = Turns r (is ++ y ∷ []) in
    elim (cases_eq m r.last) [
      | inl same ↦ rw (eq-eqb m r.last same) record {
        low = omega arith;
        high = omega (arith, turns.low, turns.high);
        shape = inr (all_issued r.first r.last (lasts r (is ++ y ∷ []))
            (at_last r m (lasts r (is ++ y ∷ [])) same next));
      }
      | inr other ↦ rw (ne_eqb m r.last other) record {
        low = omega (arith, turns.low);
        high = omega (arith, turns.high);
        shape = before_last r m (lasts r (is ++ y ∷ [])) next;
      }
    ]

-- A range without an issuance.
turns_new : (r : Range) (is : List Issuance) → r.first ≤ r.last
    → All (λ i. lies_in r i.id ≡ false) is → Turns r is r.first
turns_new r is order none =
    let z : r.first - r.first ≡ 0 = omega arith in
    let e : [] ≡ range_with_len r.first (r.first - r.first) = ap (range_with_len r.first) (sym z) in
    record { low = omega arith; high = order; shape = inl (lasts_none r is none ∙ e) }

-- Two ranges of a list that have an identifier in common are the same range.
pub one_range : (rs : List Range) (r s : Range) (x : Id) → AllPairs Apart rs → Contains rs r
    → Contains rs s → lies_in r x ≡ true → lies_in s x ≡ true → r ≡ s
one_range rs r s x pairs cr cs lr ls =
    let P : Range → Type 0 = λ y. lies_in y x ≡ true in
    let get : (k : ℕ) (d : Range) → k < length rs → slice_get rs k ≡ Some (get_or rs k d) =
    λ k d lt. slice_get-get_or rs k d lt in
    elim (cases_order cr.0 cs.0) [
      | inl e ↦
          let f : slice_get rs cr.0 ≡ Some r = get cr.0 r cr.1 ∙ ap Some cr.2 in
          let g : slice_get rs cs.0 ≡ Some s = get cs.0 s cs.1 ∙ ap Some cs.2 in
          same_Some r s (sym f ∙ ap (slice_get rs) e ∙ g)
      | inr w ↦ elim w [
        | inl lt ↦ absurd (pairs cr.0 cs.0 r lt cs.1 x (subst P (sym cr.2) lr)
            (subst P (sym (again cs r)) ls))
        | inr lt ↦ absurd (pairs cs.0 cr.0 s lt cr.1 x (subst P (sym cs.2) ls)
            (subst P (sym (again cr s)) lr))
      ]
    ]
  where
    again : {y : Range} (c : Contains rs y) (d : Range) → get_or rs c.0 d ≡ y
    again {y} c d = same_Some (get_or rs c.0 d) y (sym (slice_get-get_or rs c.0 d c.1)
        ∙ slice_get-get_or rs c.0 y c.1 ∙ ap Some c.2)

-- An issuance is covered if it lies in a range.
abbrev IsCovered : List Entry → Issuance → Type 0
IsCovered h i = list_any (λ r. lies_in r i.id) (ranges_of h) ≡ true

covered_more : (g : List Entry) (e : Entry) (i : Issuance) → IsCovered g i
    → IsCovered (g ++ e ∷ []) i
covered_more g e i h =
    let P : List Range → Type 0 = λ rs. list_any (λ r. lies_in r i.id) rs ≡ true in
    subst P (sym (ranges_from-push 1 g e))
    (list_any-append (λ r. lies_in r i.id) (ranges_of g) _
    ∙ or_left (list_any (λ r. lies_in r i.id) (ranges_of g)) _ h)

covered_picked : (g : List Entry) (t : Terms) (customer day n : ℕ) (is : List Issuance) (c : ℕ × Id)
    → IsLegal g t → IsPicked (ranges_of g) customer day n is c
    → list_any (λ r. lies_in r c.1) (ranges_of g) ≡ true
covered_picked g t customer day n is c legal from =
    let P : Range → Type 0 = λ r. lies_in r c.1 ≡ true in
    list_any_at (λ r. lies_in r c.1) (ranges_of g) from.there.0 from.range from.there.1
    (subst P (sym from.there.2) (lies_picked g t customer day n is c legal from))

covered : (h : List Entry) (t : Terms) → IsLegal h t → All (IsCovered h) (issues_of h)
covered h t legal = legal_induction (λ g. All (IsCovered g) (issues_of g)) h t legal
    (All-nil (IsCovered []))
    (λ g e legal_g before may.
    let P : Issuance → Type 0 = IsCovered (g ++ e ∷ []) in
    after_call (All P) g t e may (All-weaker (IsCovered g) P (covered_more g e) (issues_of g)
    before)
    (λ is c picked all.
    All-push P is (made_by e (1 + length g) c) all (covered_more g e (made_by e (1 + length g) c)
    (covered_picked g t e.request.customer e.day t.interval is c legal_g picked))))

-- A new range has no issuance.
pub none_issued : (h : List Entry) (t : Terms) (e : Entry) (r : Range) (num : ℕ) → IsLegal h t
    → MayFollow h t e → range_of_grant num e.request.body e.outcome ≡ Some r
    → All (λ i. lies_in r i.id ≡ false) (issues_of h)
none_issued h t e r num legal may made =
    let parted : (k : ℕ) (d : Range) → k < length (ranges_of h)
    → Apart (get_or (ranges_of h) k d) r = new_apart h e.request.customer e.day t.interval num
    e.request.body e.outcome r may.right made in
    All-weaker (IsCovered h) (λ i. lies_in r i.id ≡ false)
    (λ i c. out i.id parted (cases_Bool (lies_in r i.id)) c) (issues_of h) (covered h t legal)
  where
    out : (x : Id) → ((k : ℕ) (d : Range) → k < length (ranges_of h)
        → Apart (get_or (ranges_of h) k d) r) → (lies_in r x ≡ true) ⊎ (lies_in r x ≡ false)
        → list_any (λ s. lies_in s x) (ranges_of h) ≡ true → lies_in r x ≡ false
    out x parted (inr f) c = f
    out x parted (inl t') c =
        absurd (both_ways _ (list_any_none (λ s. lies_in s x) (ranges_of h)
        (λ k d lt. false_from_ne_true (lies_in (get_or (ranges_of h) k d) x)
        (λ old. parted k d lt x old t'))) c)

-- The call that creates a range issues no identifier.
carries_none : (num : ℕ) (b : Body) (o : Outcome) (r : Range) → range_of_grant num b o ≡ Some r
    → carried_by o ≡ []
carries_none num (Grant holder s c first last) (Granted n) r made = refl
carries_none num b o r made = absurd (none-some r made)

-- The serial that is picked in a range is its mark.
pub picked_mark : (g : List Entry) (t : Terms) (customer day n : ℕ) (is : List Issuance)
    (c : ℕ × Id) (r : Range) → IsLegal g t → IsPicked (ranges_of g) customer day n is c
    → Contains (ranges_of g) r → lies_in r c.1 ≡ true → c.1.serial ≡ pick_of is r
picked_mark g t customer day n is c r legal from there lies =
    let same : from.range ≡ r = one_range (ranges_of g) from.range r c.1 (apart g t legal)
    from.there there (lies_picked g t customer day n is c legal from) lies in
    sym (ap (λ (y : Id). y.serial) from.picked) ∙ ap (λ (s : Range). pick_of is s) same

-- The mark of a range after the carried identifiers.
abbrev pub marks : Range → ℕ → List (ℕ × Id) → ℕ
marks r m cs = fold (λ pick c. pick_after r pick c.1) m cs

pub mark_step : (r : Range) (is : List Issuance) (y : Issuance) (m : ℕ)
    → (lies_in r y.id ≡ true → y.id.serial ≡ m) → Turns r is m
    → Turns r (is ++ y ∷ []) (pick_after r m y.id)
mark_step r is y m at turns =
    elim (cases_Bool (lies_in r y.id)) [
      | inl in' ↦
          let P : ℕ → Type 0 = λ k. Turns r (is ++ y ∷ []) (serial_after r k) in
          rw in' (subst P (sym (at in')) (turns_inside r is y m in' (at in') turns))
      | inr out ↦ rw out (turns_outside r is y m out turns)
    ]

-- The carried identifiers move the mark of a range.
turns_carried : (g : List Entry) (t : Terms) (customer day n : ℕ) (made : ℕ × Id → Issuance)
    (r : Range) → IsLegal g t → Contains (ranges_of g) r → ((c : ℕ × Id) → (made c).id ≡ c.1)
    → (is : List Issuance) (m : ℕ) (cs : List (ℕ × Id))
    → InTurn (IsPicked (ranges_of g) customer day n) made is cs → Turns r is m
    → Turns r (is ++ map made cs) (marks r m cs)
turns_carried g t customer day n made r legal there same is m [] turn turns = rw append-nil turns
turns_carried g t customer day n made r legal there same is m (c ∷ cs) turn turns =
    let at : lies_in r c.1 ≡ true → c.1.serial ≡ m = λ lies. picked_mark g t customer day n is c r
    legal turn.0 there lies ∙ pick_turns r is m turns in
    let next : Turns r (is ++ made c ∷ []) (pick_after r m c.1) =
    (let P : Id → Type 0 = λ x. (lies_in r x ≡ true → x.serial ≡ m)
    → Turns r (is ++ made c ∷ []) (pick_after r m x) in
    subst P (same c) (λ e. mark_step r is (made c) m e turns)) at in
    let Q : List Issuance → Type 0 = λ l. Turns r l (marks r (pick_after r m c.1) cs) in
    subst Q (append_assoc is (made c ∷ []) (map made cs)) (turns_carried g t customer day n made r
    legal there same (is ++ made c ∷ []) (pick_after r m c.1) cs turn.1 next)

-- The mark of each range is its pick.
pub turns_pick : (r : Range) (is : List Issuance) → (m : ℕ) × Turns r is m
    → Turns r is (pick_of is r)
turns_pick r is found = let P : ℕ → Type 0 = Turns r is in
    subst P (sym (pick_turns r is found.0 found.1)) found.1

-- A call moves the mark of an existing range.
turns_call : (h : List Entry) (t : Terms) (e : Entry) (r : Range) (m : ℕ) → IsLegal h t
    → MayFollow h t e → Contains (ranges_of h) r → Turns r (issues_of h) m
    → Turns r (issues_of (h ++ e ∷ [])) (marks r m (carried_by e.outcome))
turns_call h t e r m legal may there turns =
    let Q : List Issuance → Type 0 = λ l. Turns r l (marks r m (carried_by e.outcome)) in
    subst Q (sym (issues_from-push 1 h e))
    (turns_carried h t e.request.customer e.day t.interval (made_by e (1 + length h)) r legal there
    (λ c. refl) (issues_of h) m (carried_by e.outcome) (carried_call h t e may) turns)

abbrev AllTurn : List Entry → Type 0
AllTurn h = (r : Range) → Contains (ranges_of h) r → (m : ℕ) × Turns r (issues_of h) m

turns_made : (h : List Entry) (t : Terms) (e : Entry) (r : Range) (num : ℕ) → IsLegal h t
    → MayFollow h t e → range_of_grant num e.request.body e.outcome ≡ Some r
    → Turns r (issues_of (h ++ e ∷ [])) r.first
turns_made h t e r num legal may made =
    let order : r.first ≤ r.last = new_ordered h e.request.customer e.day t.interval num
    e.request.body e.outcome r may.right made in
    let none : issues_of (h ++ e ∷ []) ≡ issues_of h =
    same_issues h e (carries_none num e.request.body e.outcome r made) in
    let P : List Issuance → Type 0 = λ l. Turns r l r.first in
    subst P (sym none) (turns_new r (issues_of h) order (none_issued h t e r num legal may made))

in_more : (rs : List Range) (made : Option Range) (r : Range) → Contains (rs ++ option_to_list made)
    r → Contains rs r ⊎ (made ≡ Some r)
in_more rs None r c = inl (let P : List Range → Type 0 = λ l. Contains l r in
    subst P (append-nil rs) c)
in_more rs (Some s) r c = elim (Contains-push_cases rs s r c)
    [ inl w ↦ inl w | inr w ↦ inr (ap Some w) ]

all_turn : (h : List Entry) (t : Terms) → IsLegal h t → AllTurn h
all_turn h t legal = legal_induction AllTurn h t legal (λ r c. absurd (omega (arith, c.1)))
    (λ g e legal_g before may r c.
    let P : List Range → Type 0 = λ l. Contains l r in
    let c' : Contains (ranges_of g ++ option_to_list (range_of_grant (1 + length (ranges_of g))
    e.request.body e.outcome)) r = subst P (ranges_from-push 1 g e) c in
    elim (in_more (ranges_of g) (range_of_grant (1 + length (ranges_of g)) e.request.body e.outcome)
    r c') [
      | inl old ↦ let was = before r old in
          (marks r was.0 (carried_by e.outcome), turns_call g t e r was.0 legal_g may old was.1)
      | inr new ↦ (r.first, turns_made g t e r (1 + length (ranges_of g)) legal_g may new)
    ])

-- The pick of each range of a legal history is its mark.
pub all_at_pick : (h : List Entry) (t : Terms) → IsLegal h t → (r : Range)
    → Contains (ranges_of h) r → Turns r (issues_of h) (pick_of (issues_of h) r)
all_at_pick h t legal r there = turns_pick r (issues_of h) (all_turn h t legal r there)

-- The pick of a new range is its first serial.
pub pick_new : (h : List Entry) (t : Terms) (e : Entry) → IsLegal h t → MayFollow h t e
    → (r : Range) → range_of_grant (length (ranges_of h) + 1) e.request.body e.outcome ≡ Some r
    → pick_of (issues_of (h ++ e ∷ [])) r ≡ r.first
pick_new h t e legal may r made =
    pick_turns r _ r.first (turns_made h t e r (length (ranges_of h) + 1) legal may made)

-- A call moves the pick of a range by each identifier that it carries.
pub pick_turned : (h : List Entry) (t : Terms) (e : Entry) → IsLegal h t → MayFollow h t e
    → (r : Range) → Contains (ranges_of h) r
    → pick_of (issues_of (h ++ e ∷ [])) r ≡ fold (λ pick c. pick_after r pick c.1)
    (pick_of (issues_of h) r) (carried_by e.outcome)
pick_turned h t e legal may r there =
    let m : ℕ = pick_of (issues_of h) r in
    pick_turns r (issues_of (h ++ e ∷ []))
    (marks r (pick_of (issues_of h) r) (carried_by e.outcome))
    (turns_call h t e r (pick_of (issues_of h) r) legal may there
    (all_at_pick h t legal r there))

-- After a Done Draw the pick is the next serial, wrapping from last to first.
pub pick_drawn : (h : List Entry) (t : Terms) (e : Entry) → IsLegal h t → MayFollow h t e
    → (r : Range) → Contains (ranges_of h) r → (day : ℕ) (x : Id) → e.outcome ≡ Drawn day x
    → IsTrue (lies_in r x)
    → pick_of (issues_of (h ++ e ∷ [])) r ≡ serial_after r x.serial
pick_drawn h t e legal may r there day x is lies =
    pick_turned h t e legal may r there
    ∙ ap (λ (o : Outcome). marks r (pick_of (issues_of h) r) (carried_by o)) is
    ∙ ap (λ (b : Bool). cond b (serial_after r x.serial) (pick_of (issues_of h) r)) lies

left_at : (r : Range) (m : ℕ) (cs : List (ℕ × Id)) → All (λ c. ¬ (IsTrue (lies_in r c.1))) cs
    → marks r m cs ≡ m
left_at r m [] other = refl
left_at r m (c ∷ cs) other =
    let P : ℕ × Id → Type 0 = λ x. ¬ (IsTrue (lies_in r x.1)) in
    elim (cases_Bool (lies_in r c.1)) [
      | inl in' ↦ absurd (All-head P c cs other in')
      | inr out ↦ rw out (left_at r m cs (All-tail P c cs other))
    ]

-- A call that issues no identifier of the range leaves its pick unchanged.
pub pick_left : (h : List Entry) (t : Terms) (e : Entry) → IsLegal h t → MayFollow h t e
    → (r : Range) → Contains (ranges_of h) r → All (λ c. ¬ (IsTrue (lies_in r c.1)))
    (carried_by e.outcome)
    → pick_of (issues_of (h ++ e ∷ [])) r ≡ pick_of (issues_of h) r
pick_left h t e legal may r there other = pick_turned h t e legal may r there
    ∙ left_at r (pick_of (issues_of h) r) (carried_by e.outcome) other
