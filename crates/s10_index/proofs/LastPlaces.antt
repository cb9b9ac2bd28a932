-- The last element that passes.
use Rattle.std.proofs.Common.{None, ◌≡◌, ◌∙◌, ℕ, zero, suc, ◌+◌, ◌<◌, ◌≤◌, Bool, true, false, cond, List, []}
use Rattle.std.proofs.Common.{◌∷◌, ◌++◌, Option, Some, length, get_or, refl, sym, ap, subst, arith}
use Rattle.std.specs.Prelude.{slice_get, IfSome}
use Rattle.std.specs.Option.{option_map, unwrap_or}
use Rattle.std.proofs.lemmas.Bool.{both_ways}
use Rattle.std.proofs.lemmas.Option.{none-some, same_Some, slice_get-get_or}
use Rattle.std.proofs.lemmas.Option.{get_or_from_slice_get}
use Rattle.s10_index.specs.LastPlace.{passes_at, last_place}
use Rattle.s10_index.specs.HashChains.{link_to}

-- Elements at an index.

pub at_element : {A : Type 0} (p : A → Bool) (xs : List A) (i : ℕ) (x : A) → slice_get xs i ≡ Some x
    → passes_at p xs i ≡ p x
at_element p xs i x at = ap (λ o. unwrap_or (option_map p o) false) at

pub at_number : (p : ℕ → Bool) (xs : List ℕ) (i : ℕ) → i < length xs
    → passes_at p xs i ≡ p (get_or xs i 0)
at_number p xs i lt = at_element p xs i (get_or xs i 0) (slice_get-get_or xs i 0 lt)

pub number_at : (xs : List ℕ) (i x : ℕ) → slice_get xs i ≡ Some x → x ≡ get_or xs i 0
number_at xs i x at = sym (get_or_from_slice_get xs i x 0 at)

pub before_end : {A : Type 0} (xs ys : List A) (i : ℕ) → i < length xs
    → slice_get (xs ++ ys) i ≡ slice_get xs i
before_end [] ys i lt = absurd (omega (arith, lt))
before_end (x ∷ xs) ys zero lt = refl
before_end (x ∷ xs) ys (suc i) lt = before_end xs ys i (omega (arith, lt))

pub at_end : {A : Type 0} (xs : List A) (y : A) → slice_get (xs ++ y ∷ []) (length xs) ≡ Some y
at_end [] y = refl
at_end (x ∷ xs) y = at_end xs y

-- The last one among more elements.

pub last_more : {A : Type 0} (p : A → Bool) (xs : List A) (n : ℕ) → last_place p xs (n + 1)
    ≡ cond (passes_at p xs n) (Some n) (last_place p xs n)
last_more p xs n = let e : n + 1 ≡ suc n = omega arith in ap (last_place p xs) e

pub last_link : {A : Type 0} (p : A → Bool) (xs : List A) (n : ℕ)
    → link_to (last_place p xs n) ≤ n
last_link p xs zero = omega arith
last_link p xs (suc n) = by (passes_at p xs n) (last_link p xs n)
  where
    by : (b : Bool) → link_to (last_place p xs n) ≤ n
        → link_to (cond b (Some n) (last_place p xs n)) ≤ suc n
    by true rest = omega arith
    by false rest = omega (arith, rest)

pub last_agrees : {A B : Type 0} (p : A → Bool) (q : B → Bool) (xs : List A) (ys : List B) (n : ℕ)
    → ((i : ℕ) → i < n → passes_at p xs i ≡ passes_at q ys i)
    → last_place p xs n ≡ last_place q ys n
last_agrees p q xs ys zero same = refl
last_agrees p q xs ys (suc n) same =
    ap (λ (b : Bool). cond b (Some n) (last_place p xs n)) (same n (omega arith))
    ∙ ap (λ (o : Option ℕ). cond (passes_at q ys n) (Some n) o)
    (last_agrees p q xs ys n (λ i lt. same i (omega (arith, lt))))

-- The elements before the end are the same in a longer list.
pub last_before_end : {A : Type 0} (p : A → Bool) (xs ys : List A) (n : ℕ) → n ≤ length xs
    → last_place p (xs ++ ys) n ≡ last_place p xs n
last_before_end p xs ys n few =
    last_agrees p p (xs ++ ys) xs n
    (λ i lt. ap (λ o. unwrap_or (option_map p o) false) (before_end xs ys i (omega (arith, lt, few))))

-- One more element at the end.
pub last_push : {A : Type 0} (p : A → Bool) (xs : List A) (y : A)
    → last_place p (xs ++ y ∷ []) (length xs + 1)
    ≡ cond (p y) (Some (length xs)) (last_place p xs (length xs))
last_push p xs y =
    last_more p (xs ++ y ∷ []) (length xs)
    ∙ ap (λ (b : Bool). cond b (Some (length xs)) (last_place p (xs ++ y ∷ []) (length xs)))
    (at_element p (xs ++ y ∷ []) (length xs) y (at_end xs y))
    ∙ ap (λ (o : Option ℕ). cond (p y) (Some (length xs)) o)
    (last_before_end p xs (y ∷ []) (length xs) (omega arith))

-- The element at the last place passes.
pub last_passes_at : {A : Type 0} (p : A → Bool) (xs : List A) (n m : ℕ)
    → last_place p xs n ≡ Some m → (m < n) × (passes_at p xs m ≡ true)
last_passes_at p xs zero m found = absurd (none-some m found)
last_passes_at p xs (suc n) m found = by (passes_at p xs n) refl (last_passes_at p xs n m) found
  where
    by : (b : Bool) → passes_at p xs n ≡ b
        → (last_place p xs n ≡ Some m → (m < n) × (passes_at p xs m ≡ true))
        → cond b (Some n) (last_place p xs n) ≡ Some m → (m < suc n) × (passes_at p xs m ≡ true)
    by true passes rest is =
        let e : n ≡ m = same_Some n m is in
        let P : ℕ → Type 0 = λ k. (k < suc n) × (passes_at p xs k ≡ true) in
        subst P e (omega arith, passes)
    by false fails rest is = let before = rest is in
        (omega (arith, before.0), before.1)

-- If all that pass q pass p, the last one that passes q is not after the last one that passes p.
pub narrowed : {A B : Type 0} (p : A → Bool) (q : B → Bool) (xs : List A) (ys : List B) (n : ℕ)
    → ((i : ℕ) → i < n → passes_at q ys i ≡ true → passes_at p xs i ≡ true)
    → last_place q ys n ≡ last_place q ys (link_to (last_place p xs n))
narrowed p q xs ys zero within = refl
narrowed p q xs ys (suc n) within =
    by (passes_at p xs n) refl (passes_at q ys n) refl
    (narrowed p q xs ys n (λ i lt. within i (omega (arith, lt))))
  where
    by : (b : Bool) → passes_at p xs n ≡ b → (c : Bool) → passes_at q ys n ≡ c
        → last_place q ys n ≡ last_place q ys (link_to (last_place p xs n))
        → last_place q ys (suc n) ≡ last_place q ys (link_to (cond b (Some n) (last_place p xs n)))
    by true passes c here rest = let e : suc n ≡ n + 1 = omega arith in ap (last_place q ys) e
    by false fails true here rest =
        absurd (both_ways (passes_at p xs n) fails (within n (omega arith) here))
    by false fails false here rest =
        ap (λ (b : Bool). cond b (Some n) (last_place q ys n)) here ∙ rest

pub last_within : {A : Type 0} (p : A → Bool) (xs : List A) (n bound : ℕ) (o : Option ℕ) → n ≤ bound
    → o ≡ last_place p xs n → IfSome o (λ m. m < bound)
last_within p xs n bound None few is = tt
last_within p xs n bound (Some m) few is =
    let found = last_passes_at p xs n m (sym is) in
    omega (arith, few, found.0)
