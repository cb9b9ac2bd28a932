-- A sum over the issuances in a range is a sum over its serials.
use Rattle.std.proofs.Common.{◌≡◌, ℕ, zero, suc, ◌+◌, ◌-◌, Bool, true, false, cond, eqb, leb, ltb}
use Rattle.std.proofs.Common.{◌&&◌, List, [], ◌∷◌, refl, sym, ap, ap₂, ◌∙◌, arith}
use Rattle.std.specs.Prelude.{filter}
use Rattle.std.specs.List.{sum_by, range_with_len}
use Rattle.std.proofs.lemmas.List.Sums.{sum_by-cons}
use Rattle.std.proofs.lemmas.Bool.Decides.{nat_tests}
use Rattle.s10_core.specs.Letters.{same_letters}
use Rattle.s10_history.specs.declared.range.Range.{Range}
use Rattle.s10_history.specs.declared.issuance.Issuance.{Issuance}
use Rattle.s10_history.specs.History.{lies_in}
use Rattle.s10_history.specs.Issues.{is_of, id_at, serials}

pub sum_same : {X : Type 0} (f g : X → ℕ) (xs : List X) → ((x : X) → f x ≡ g x)
    → sum_by f xs ≡ sum_by g xs
sum_same f g xs same = ap (λ h. sum_by h xs) (λ i x. same x i)

pub sum_both : {X : Type 0} (f g : X → ℕ) (xs : List X) → sum_by (λ x. f x + g x) xs
    ≡ sum_by f xs + sum_by g xs
sum_both f g [] = refl
sum_both f g (x ∷ xs) =
    omega (
      arith,
      sum_by-cons (λ x. f x + g x) x xs,
      sum_by-cons f x xs,
      sum_by-cons g x xs,
      sum_both f g xs,
    )

pub sum_none : {X : Type 0} (xs : List X) → sum_by (λ x. 0) xs ≡ 0
sum_none [] = refl
sum_none (x ∷ xs) = omega (arith, sum_by-cons (λ x. 0) x xs, sum_none xs)

between_step : (low k n w s : ℕ) → s ≡ cond (leb (low + 1) k && ltb k (low + 1 + n)) w 0
    → cond (eqb k low) w 0 + s ≡ cond (leb low k && ltb k (low + suc n)) w 0
between_step low k n w s e = grind (arith, nat_tests)

none_between : (low k w : ℕ) → 0 ≡ cond (leb low k && ltb k (low + 0)) w 0
none_between low k w = grind (arith, nat_tests)

-- Of successive serials at most one is the given one.
one_serial : (w k low n : ℕ) → sum_by (λ s. cond (eqb k s) w 0) (range_with_len low n)
    ≡ cond (leb low k && ltb k (low + n)) w 0
one_serial w k low zero = none_between low k w
one_serial w k low (suc n) = sum_by-cons (λ s. cond (eqb k s) w 0) low (range_with_len (low + 1) n)
    ∙ between_step low k n w _ (one_serial w k (low + 1) n)

to_last : (first last k w : ℕ) → cond (leb first k && ltb k (first + (last + 1 - first))) w 0
    ≡ cond (leb first k && leb k last) w 0
to_last first last k w = grind (arith, nat_tests)

letters_turned : (a b : ℕ × ℕ) → same_letters a b ≡ same_letters b a
letters_turned a b = ap₂ ◌&&◌ (turned a.0 b.0) (turned a.1 b.1)
  where
    turned : (m n : ℕ) → eqb m n ≡ eqb n m
    turned m n = grind (arith, nat_tests)

-- The service and the country are the same, or not.
by_letters : (s c s' c' b : Bool) (w : ℕ) → s ≡ s' → c ≡ c' → cond ((s && b) && c) w 0
    ≡ cond (s' && c') (cond b w 0) 0
by_letters true true s' c' true w p q = rw (← p, ← q) refl
by_letters true true s' c' false w p q = rw (← p, ← q) refl
by_letters true false s' c' true w p q = rw (← p, ← q) refl
by_letters true false s' c' false w p q = rw (← p, ← q) refl
by_letters false c s' c' b w p q = rw (← p) refl

by_range : (b x y : Bool) (w : ℕ) → cond b (cond (x && y) w 0) 0 ≡ cond ((b && x) && y) w 0
by_range true true true w = refl
by_range true true false w = refl
by_range true false y w = refl
by_range false x y w = refl

cond_sum : {X : Type 0} (b : Bool) (f : X → ℕ) (xs : List X) → sum_by (λ x. cond b (f x) 0) xs
    ≡ cond b (sum_by f xs) 0
cond_sum true f xs = refl
cond_sum false f xs = sum_none xs

-- An issuance counts at one serial of the range that has it.
one_place : (r : Range) (i : Issuance) (w : ℕ) → sum_by (λ s. cond (is_of (id_at r s) i) w 0)
    (serials r) ≡ cond (lies_in r i.id) w 0
one_place r i w =
    let s = same_letters r.service i.id.service in
    let c = same_letters r.country i.id.country in
    sum_same (λ n. cond (is_of (id_at r n) i) w 0)
    (λ n. cond (s && c) (cond (eqb i.id.serial n) w 0) 0) (serials r)
    (λ n. by_letters (same_letters i.id.service r.service) (same_letters i.id.country r.country) s c
    (eqb i.id.serial n) w (letters_turned i.id.service r.service)
    (letters_turned i.id.country r.country))
    ∙ cond_sum (s && c) (λ n. cond (eqb i.id.serial n) w 0) (serials r)
    ∙ ap (λ n. cond (s && c) n 0) (one_serial w i.id.serial r.first (r.last + 1 - r.first)
    ∙ to_last r.first r.last i.id.serial w)
    ∙ by_range (s && c) (leb r.first i.id.serial) (leb i.id.serial r.last) w

sum_at : {X : Type 0} (g : X → ℕ) (b : Bool) (x : X) (xs : List X) → sum_by g (cond b (x ∷ xs) xs)
    ≡ cond b (g x) 0 + sum_by g xs
sum_at g true x xs = sum_by-cons g x xs
sum_at g false x xs = omega arith

-- A sum over the issuances in a range, serial by serial.
pub by_serials : (g : Issuance → ℕ) (r : Range) (is : List Issuance)
    → sum_by g (filter (λ i. lies_in r i.id) is)
    ≡ sum_by (λ s. sum_by g (filter (is_of (id_at r s)) is)) (serials r)
by_serials g r [] = sym (sum_none (serials r))
by_serials g r (i ∷ is) =
    let rest = filter (λ j. lies_in r j.id) is in
    sum_at g (lies_in r i.id) i rest
    ∙ ap₂ ◌+◌ (sym (one_place r i (g i))) (by_serials g r is)
    ∙ sym (sum_both (λ s. cond (is_of (id_at r s) i) (g i) 0)
    (λ s. sum_by g (filter (is_of (id_at r s)) is)) (serials r))
    ∙ sum_same _ _ (serials r)
    (λ s. sym (sum_at g (is_of (id_at r s) i) i (filter (is_of (id_at r s)) is)))
