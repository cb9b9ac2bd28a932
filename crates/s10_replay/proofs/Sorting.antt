-- A list with no ties has one sorted order.
use Rattle.std.proofs.Common.{add-one, ◌≡◌, ◌⊎◌, inl, inr, zero, suc, length, Bool, false, List}
use Rattle.std.proofs.Common.{[], ◌∷◌, refl}
use Rattle.std.proofs.Common.{sym, ap, ap₂, ◌∙◌, subst, arith, Ordering, Less, Equal, Greater}
use Rattle.std.proofs.Common.{is_lt, is_gt, is_eq, true≢false, IsPermutation, IsSorted}
use Rattle.std.specs.List.{AllByRecursion, IsDistinct}
use Rattle.std.specs.Cmp.{IsTotalOrder}
use Rattle.std.specs.Ordering.{ordering_reverse}
use Rattle.std.proofs.lemmas.Cmp.{upto}
use Rattle.std.proofs.lemmas.List.Elements.{recursion_from_All, All-from_recursion}
use Rattle.std.proofs.lemmas.List.Sorted.{length_permutation, All-permutation, IsPermutation-sym}
use Rattle.std.proofs.lemmas.List.Sorted.{IsPermutation-trans, IsPermutation-refl}
use Rattle.std.proofs.lemmas.List.Sorted.{IsPermutation-cons, IsPermutation-remove}
use Rattle.std.proofs.lemmas.List.Sorted.{Contains-permutation}
use Rattle.std.proofs.lemmas.List.{nil_from_length}
use Rattle.std.specs.List.{remove}
use Rattle.std.specs.Prelude.{Contains}
use Rattle.std.proofs.lemmas.Map.Keys.{IsDistinct-IsPermutation}
use Rattle.s10_replay.specs.Ascending.{IsAscending}

pub all_weaker : {X : Type 0} (P Q : X → Type 0) → ((x : X) → P x → Q x) → (xs : List X)
    → AllByRecursion P xs → AllByRecursion Q xs
all_weaker P Q f [] h = tt
all_weaker P Q f (x ∷ xs) h = (f x h.0, all_weaker P Q f xs h.1)

-- The element is in the list.
abbrev In : {X : Type 0} → List X → X → Type 0
In [] z = ⊥
In (x ∷ xs) z = (x ≡ z) ⊎ In xs z

all_in : {X : Type 0} (P : X → Type 0) (xs : List X) (z : X) → AllByRecursion P xs → In xs z → P z
all_in P [] z all there = absurd there
all_in P (x ∷ xs) z all (inl here) = subst P here all.0
all_in P (x ∷ xs) z all (inr later) = all_in P xs z all.1 later

in_itself : {X : Type 0} (xs : List X) → AllByRecursion (In xs) xs
in_itself [] = tt
in_itself (x ∷ xs) = (
  inl refl,
  all_weaker (In xs) (In (x ∷ xs)) (λ z later. inr later) xs (in_itself xs),
)

in_permuted : {X : Type 0} (xs ys : List X) → IsPermutation xs ys → AllByRecursion (In xs) ys
in_permuted xs ys same = recursion_from_All (In xs) ys (All-permutation (In xs) xs ys same
    (All-from_recursion (In xs) xs (in_itself xs)))

pub one_permutation : {X : Type 0} (x : X) (ys : List X) → IsPermutation (x ∷ []) ys → ys ≡ x ∷ []
one_permutation x [] same = absurd (omega (arith, length_permutation _ _ same))
one_permutation x (y ∷ []) same = elim (in_permuted (x ∷ []) (y ∷ []) same).0
    [ inl here ↦ ap (λ z. z ∷ []) (sym here) | inr later ↦ absurd later ]
one_permutation x (y ∷ z ∷ ys) same = absurd (omega (arith, length_permutation _ _ same))

turned_gt : (o : Ordering) → is_lt o ≡ false → is_gt (ordering_reverse o) ≡ false
turned_gt Less h = h
turned_gt Equal h = refl
turned_gt Greater h = refl

turned_eq : (o : Ordering) → is_eq (ordering_reverse o) ≡ is_eq o
turned_eq Less = refl
turned_eq Equal = refl
turned_eq Greater = refl

less : (o : Ordering) → is_gt o ≡ false → is_eq o ≡ false → o ≡ Less
less Less above tie = refl
less Equal above tie = absurd (true≢false tie)
less Greater above tie = absurd (true≢false above)

module _ {X : Type 0} (cmp : X → X → Ordering) (total : IsTotalOrder cmp) where
  abbrev AtMost : X → X → Type 0
  AtMost a b = is_gt (cmp a b) ≡ false

  abbrev Below : X → X → Type 0
  Below a b = cmp a b ≡ Less

  abbrev tie : X → X → Bool
  tie a b = is_eq (cmp a b)

  abbrev pub HasNoTies : List X → Type 0
  HasNoTies = IsAscending (λ a b. tie a b ≡ false)

  below_all : (x : X) (ys : List X) → IsSorted cmp (x ∷ ys) → IsAscending AtMost ys
      → AllByRecursion (AtMost x) ys
  below_all x [] sorted up = tt
  below_all x (y ∷ ys) sorted up =
      let first : AtMost x y = ap is_gt (total.antisymm x y)
      ∙ turned_gt _ (sorted 0 x (omega arith) (omega arith)) in
      (first, all_weaker _ (AtMost x) (λ z. upto total x y z first) ys up.0)

  ascending_from_sorted : (xs : List X) → IsSorted cmp xs → IsAscending AtMost xs
  ascending_from_sorted [] sorted = tt
  ascending_from_sorted (x ∷ xs) sorted =
      let tail : IsSorted cmp xs =
      λ k d p q. rw add-one (rw add-one at (sorted (suc k) d (omega arith) (omega arith))) in
      let up = ascending_from_sorted xs tail in
      (below_all x xs sorted up, up)

  -- Ties do not depend on the order of the elements.

  distinct : (xs : List X) → HasNoTies xs → IsDistinct tie xs
  unfolding IsDistinct
  distinct [] apart = tt
  distinct (x ∷ xs) apart = (apart.0, distinct xs apart.1)

  no_ties : (xs : List X) → IsAscending Below xs → HasNoTies xs
  no_ties [] up = tt
  no_ties (x ∷ xs) up =
      (all_weaker (Below x) (λ y. tie x y ≡ false) (λ y h. ap is_eq h) xs up.0, no_ties xs up.1)

  below : (x : X) (ys : List X) → AllByRecursion (AtMost x) ys
      → AllByRecursion (λ y. tie x y ≡ false) ys → AllByRecursion (Below x) ys
  below x [] up apart = tt
  below x (y ∷ ys) up apart = (less (cmp x y) up.0 apart.0, below x ys up.1 apart.1)

  rises : (xs : List X) → IsAscending AtMost xs → IsDistinct tie xs → IsAscending Below xs
  unfolding IsDistinct
  rises [] up apart = tt
  rises (x ∷ xs) up apart = (below x xs up.0 apart.0, rises xs up.1 apart.1)

  -- An order of a list with no ties in which no element is above a later one rises.
  pub ordered_rises : (xs ys : List X) → HasNoTies xs → IsPermutation xs ys → IsAscending AtMost ys
      → IsAscending Below ys
  ordered_rises xs ys apart same up = rises ys up
      (IsDistinct-IsPermutation tie (λ x y. ap is_eq (total.antisymm x y) ∙ turned_eq (cmp y x)) xs
      ys same (distinct xs apart))

  -- A sorted order of a list with no ties rises.
  sorted_rises : (xs ys : List X) → HasNoTies xs → IsPermutation xs ys → IsSorted cmp ys
      → IsAscending Below ys
  sorted_rises xs ys apart same sorted =
      ordered_rises xs ys apart same (ascending_from_sorted ys sorted)

  -- Two lists that rise are equal if they have the same elements.

  not_both : (x y : X) → Below x y → Below y x → ⊥
  not_both x y a b = let e : Less ≡ Greater = sym a ∙ total.antisymm x y
      ∙ ap ordering_reverse b in cc

  first : (x y : X) (xs ys : List X) → AllByRecursion (Below x) xs → AllByRecursion (Below y) ys
      → In (y ∷ ys) x → In (x ∷ xs) y → y ≡ x
  first x y xs ys up up' (inl here) to = here
  first x y xs ys up up' (inr later) (inl here) = sym here
  first x y xs ys up up' (inr later) (inr later') =
      absurd (not_both x y (all_in (Below x) xs y up later') (all_in (Below y) ys x up' later))

  others : (x y : X) (xs ys : List X) → y ≡ x → AllByRecursion (Below x) xs
      → AllByRecursion (In (y ∷ ys)) xs → AllByRecursion (In ys) xs
  others x y [] ys same up all = tt
  others x y (z ∷ xs) ys same up all = (at all.0, others x y xs ys same up.1 all.1)
    where
      at : In (y ∷ ys) z → In ys z
      at (inl here) = let less : Below x x = ap (cmp x) (sym same ∙ here) ∙ up.0 in
          absurd (not_both x x less less)
      at (inr later) = later

  one_order : (xs ys : List X) → IsAscending Below xs → IsAscending Below ys
      → AllByRecursion (In ys) xs → AllByRecursion (In xs) ys → ys ≡ xs
  one_order [] [] up up' from to = refl
  one_order [] (y ∷ ys) up up' from to = absurd to.0
  one_order (x ∷ xs) [] up up' from to = absurd from.0
  one_order (x ∷ xs) (y ∷ ys) up up' from to =
      let head : y ≡ x = first x y xs ys up.0 up'.0 from.0 to.0 in
      ap₂ ◌∷◌ head (one_order xs ys up.1 up'.1 (others x y xs ys head up.0 from.1)
      (others y x ys xs (sym head) up'.0 to.1))

  both_rise : (xs ys : List X) → IsAscending Below xs → IsAscending Below ys → IsPermutation xs ys
      → ys ≡ xs
  both_rise xs ys up up' same =
      one_order xs ys up up' (in_permuted ys xs (IsPermutation-sym xs ys same))
      (in_permuted xs ys same)

  -- Rows that rise, each of them an element of a list of the same length, are that list in an order.

  in_rest : (x z : X) (ys : List X) → Below x z → Contains (x ∷ ys) z → Contains ys z
  in_rest x z ys up (zero, within, is) = let less : Below x x = ap (cmp x) is ∙ up in
      absurd (not_both x x less less)
  in_rest x z ys up (suc k, within, is) = (k, omega (arith, within), is)

  all_in_rest : (x : X) (ys zs : List X) → AllByRecursion (Below x) zs
      → AllByRecursion (Contains (x ∷ ys)) zs → AllByRecursion (Contains ys) zs
  all_in_rest x ys [] up within = tt
  all_in_rest x ys (z ∷ zs) up within = (
    in_rest x z ys up.0 within.0,
    all_in_rest x ys zs up.1 within.1,
  )

  all_moved : (xs ys zs : List X) → IsPermutation xs ys → AllByRecursion (Contains xs) zs
      → AllByRecursion (Contains ys) zs
  all_moved xs ys zs same = all_weaker (Contains xs) (Contains ys)
      (λ z. Contains-permutation xs ys z same) zs

  pub rising_part : (xs ys : List X) → IsAscending Below ys → AllByRecursion (Contains xs) ys
      → length ys ≡ length xs → IsPermutation xs ys
  rising_part xs [] up within long = subst (λ l. IsPermutation l []) (sym (nil_from_length xs
      (sym long))) (IsPermutation-refl [])
  rising_part xs (y ∷ ys) up within long =
      let k = within.0.0 in
      let first : IsPermutation xs (y ∷ remove xs k) = IsPermutation-remove xs k y within.0.1
      (sym within.0.2) in
      let rest : AllByRecursion (Contains (remove xs k)) ys =
      all_in_rest y (remove xs k) ys up.0 (all_moved xs (y ∷ remove xs k) ys first within.1) in
      IsPermutation-trans xs (y ∷ remove xs k) (y ∷ ys) first
      (IsPermutation-cons y (remove xs k) ys (rising_part (remove xs k) ys up.1 rest
      (omega (arith, long, length_permutation _ _ first))))

  pub sorted_unique : (xs ys : List X) → IsAscending (λ a b. cmp a b ≡ Less) xs
      → IsPermutation xs ys → IsSorted cmp ys → ys ≡ xs
  sorted_unique xs ys strict same sorted =
      both_rise xs ys strict (sorted_rises xs ys (no_ties xs strict) same sorted) same
