-- What is found among the ranges.
use Rattle.std.proofs.Common.{◌≡◌, ◌∙◌, ℕ, zero, suc, ◌-◌, ◌<◌, ◌≤◌, ◌==◌, ◌⊎◌, Bool, true, false}
use Rattle.std.proofs.Common.{List, [], ◌∷◌, Some, None, length, get_or, sym, ap, refl, arith, inl}
use Rattle.std.proofs.Common.{inr}
use Rattle.std.specs.Prelude.{find}
use Rattle.std.proofs.lemmas.Bool.{both_ways, false_from_ne_true, eq-eqb, ne_eqb}
use Rattle.std.proofs.lemmas.Option.{none-some}
use Rattle.s10_history.specs.declared.range.Range.{Range}
use Rattle.s10_ranges.specs.Order.{range_at, IsOrder}
use Rattle.s10_ranges.specs.Sound.{AreSound}

-- The first range that passes the test is found.
pub find_first : (p : Range → Bool) (xs : List Range) (k : ℕ) (r : Range) → k < length xs
    → get_or xs k r ≡ r → p r ≡ true
    → ((i : ℕ) (d : Range) → i < k → p (get_or xs i d) ≡ false) → find p xs ≡ Some r
find_first p [] k r lt is hit none = absurd (omega arith)
find_first p (x ∷ xs) zero r lt is hit none = let test : p x ≡ true = ap p is ∙ hit in
    rw test (ap Some is)
find_first p (x ∷ xs) (suc k) r lt is hit none = let test : p x ≡ false = none 0 x (omega arith) in
    rw test (find_first p xs k r (omega arith) is hit (λ i d h. none (suc i) d (omega arith)))

-- If no range passes the test, none is found.
pub find_none : (p : Range → Bool) (xs : List Range) → ((i : ℕ) (d : Range) → i < length xs
    → p (get_or xs i d) ≡ false) → find p xs ≡ None
find_none p [] none = refl
find_none p (x ∷ xs) none = let test : p x ≡ false = none 0 x (omega arith) in
    rw test (find_none p xs (λ i d h. none (suc i) d (omega arith)))

-- If none is found, no range passes the test.
none_step : (p : Range → Bool) (x : Range) (xs : List Range) (b : Bool) → p x ≡ b → find p (x ∷ xs)
    ≡ None → (find p xs ≡ None → (i : ℕ) (d : Range) → i < length xs → p (get_or xs i d) ≡ false)
    → (i : ℕ) (d : Range) → i < length (x ∷ xs) → p (get_or (x ∷ xs) i d) ≡ false
none_step p x xs true is none rest i d lt = absurd (let e : find p (x ∷ xs) ≡ Some x = rw is refl in
    none-some x (sym none ∙ e))
none_step p x xs false is none rest zero d lt = is
none_step p x xs false is none rest (suc i) d lt =
    rest (let e : find p (x ∷ xs) ≡ find p xs = rw is refl in sym e ∙ none) i d (omega arith)

pub none_found : (p : Range → Bool) (xs : List Range) → find p xs ≡ None → (i : ℕ) (d : Range)
    → i < length xs → p (get_or xs i d) ≡ false
none_found p [] none i d lt = absurd (omega arith)
none_found p (x ∷ xs) none i d lt = none_step p x xs (p x) refl none (none_found p xs) i d lt

-- If no range in the order passes the test, none is found.
pub none_in_order : (low high : Range → ℕ) (rs : List Range) (order : List ℕ)
    → IsOrder low high rs order → (p : Range → Bool)
    → ((j : ℕ) (d : Range) → j < length order → p (range_at rs order j d) ≡ false)
    → find p rs ≡ None
none_in_order low high rs order o p none =
    find_none p rs (λ k d lt. false_from_ne_true (p (get_or rs k d)) (λ hit. o.all k lt (λ j jlt e.
    both_ways (p (range_at rs order j d)) (none j d jlt) (ap (λ i. p (get_or rs i d)) e ∙ hit))))

-- A range that passes is found if no range that passes in the order has a lower index.
pub first_in_order : (low high : Range → ℕ) (rs : List Range) (order : List ℕ)
    → IsOrder low high rs order → (p : Range → Bool) (m : ℕ) (r : Range) → m < length order
    → get_or rs (get_or order m 0) r ≡ r → p r ≡ true
    → ((j : ℕ) (d : Range) → j < length order → p (range_at rs order j d) ≡ true
    → get_or order m 0 ≤ get_or order j 0) → find p rs ≡ Some r
first_in_order low high rs order o p m r inside is hit least =
    let place = o.places m inside in
    find_first p rs (get_or order m 0) r place is hit
    (λ i d lt. false_from_ne_true (p (get_or rs i d)) (λ also. o.all i (omega arith) (λ j jlt e.
    let le = least j d jlt (ap (λ k. p (get_or rs k d)) e ∙ also) in omega (arith, le, e, lt))))

-- The range of a number is at the index below it.
pub number_found : (rs : List Range) (num : ℕ) (r : Range) → AreSound rs → 0 < num → num ≤ length rs
    → get_or rs (num - 1) r ≡ r → find (λ x. x.num == num) rs ≡ Some r
number_found rs num r sound from to is =
    let at = sound (num - 1) r (omega arith) in
    let e : (get_or rs (num - 1) r).num ≡ r.num = ap (λ (x : Range). x.num) is in
    find_first (λ x. x.num == num) rs (num - 1) r (omega arith) is
    (eq-eqb r.num num (omega (arith, at.num, e)))
    (λ i d lt. ne_eqb (get_or rs i d).num num (λ same. let other = sound i d (omega arith) in
    absurd (omega (arith, other.num, same, lt))))

pub number_missing : (rs : List Range) (num : ℕ) → AreSound rs → (num ≡ 0) ⊎ (length rs < num)
    → find (λ x. x.num == num) rs ≡ None
number_missing rs num sound out =
    find_none (λ x. x.num == num) rs (λ i d lt. ne_eqb (get_or rs i d).num num
    (λ same. let at = sound i d lt in elim out [
      | inl z ↦ omega (arith, at.num, same, z)
      | inr gt ↦ omega (arith, at.num, same, gt)
    ]))
