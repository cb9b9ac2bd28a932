-- Images of a list of which one changes.
use Rattle.std.proofs.Common.{◌≡◌, Bool, true, false, not, cond, List, [], ◌∷◌, ◌++◌, map, length}
use Rattle.std.proofs.Common.{refl, sym, ap, ap₂, ◌∙◌, subst, arith, inl, inr}
use Rattle.std.specs.Prelude.{filter, All}
use Rattle.std.specs.List.Sorted.{IsPermutation}
use Rattle.std.proofs.lemmas.Bool.{cases_Bool}
use Rattle.std.proofs.lemmas.List.{map-append}
use Rattle.std.proofs.lemmas.List.Elements.{All-head, All-tail}
use Rattle.std.proofs.lemmas.List.Sorted.{IsPermutation-refl, IsPermutation-map, IsPermutation-sym}
use Rattle.std.proofs.lemmas.List.Sorted.{IsPermutation-trans, IsPermutation-append_comm}
use Rattle.std.proofs.lemmas.List.Sorted.{IsPermutation-filter_both}
use Rattle.std.proofs.lemmas.Grind.{merely}
use Rattle.s10_rows.specs.Tables.{HaveSameRows}

pub same_images : {A B : Type 0} (f g : A → B) → ((x : A) → f x ≡ g x) → (xs : List A)
    → map f xs ≡ map g xs
same_images f g same xs = λ i. map (λ x. same x i) xs

pub map_twice : {A B C : Type 0} (g : B → C) (f : A → B) (xs : List A) → map g (map f xs)
    ≡ map (λ x. g (f x)) xs
map_twice g f [] = refl
map_twice g f (x ∷ xs) = ap (λ l. g (f x) ∷ l) (map_twice g f xs)

-- Two functions that agree on each element give the same images.
pub images_agree : {A B : Type 0} (f g : A → B) (xs : List A) → All (λ x. f x ≡ g x) xs
    → map f xs ≡ map g xs
images_agree f g [] all = refl
images_agree f g (x ∷ xs) all = ap₂ ◌∷◌ (All-head (λ y. f y ≡ g y) x xs all)
    (images_agree f g xs (All-tail (λ y. f y ≡ g y) x xs all))

-- If no element passes, all others stay.
pub all_left : {A : Type 0} (p : A → Bool) (xs : List A) → filter p xs ≡ []
    → filter (λ x. not (p x)) xs ≡ xs
all_left p [] none = refl
all_left p (x ∷ xs) none =
    elim (cases_Bool (p x)) [
      | inl t ↦ absurd (omega (arith, ap length (rw t at none)))
      | inr f ↦ rw f (ap (λ l. x ∷ l) (all_left p xs (rw f at none)))
    ]

at_first : {A B : Type 0} (f g : A → B) (b : Bool) (x : A) (l : List A) → (b ≡ false → f x ≡ g x)
    → map f l ≡ map g l → map f (cond (not b) (x ∷ l) l) ≡ map g (cond (not b) (x ∷ l) l)
at_first f g true x l same rest = rest
at_first f g false x l same rest = ap₂ ◌∷◌ (same refl) rest

-- The images of those that fail are the same.
pub rest_same : {A B : Type 0} (p : A → Bool) (f g : A → B) (xs : List A)
    → All (λ y. p y ≡ false → f y ≡ g y) xs → map f (filter (λ y. not (p y)) xs)
    ≡ map g (filter (λ y. not (p y)) xs)
rest_same p f g [] all = refl
rest_same p f g (x ∷ xs) all =
    at_first f g (p x) x (filter (λ y. not (p y)) xs) (All-head (λ y. p y ≡ false → f y ≡ g y) x xs
    all)
    (rest_same p f g xs (All-tail (λ y. p y ≡ false → f y ≡ g y) x xs all))

-- If one element passes, and the images of the others are the same, its image goes to the end.
pub replaced : {A B : Type 0} (p : A → Bool) (f g : A → B) (xs : List A) (x : A)
    → filter p xs ≡ x ∷ [] → All (λ y. p y ≡ false → f y ≡ g y) xs
    → HaveSameRows (map f (filter (λ y. not (p y)) xs) ++ g x ∷ []) (map g xs)
replaced {A} {B} p f g xs x one same =
    let others : List A = filter (λ y. not (p y)) xs in
    let images : map g (others ++ filter p xs) ≡ map f others ++ g x ∷ [] =
    map-append g others (filter p xs) ∙ ap₂ ◌++◌ (sym (rest_same p f g xs same))
    (ap (map g) one) in
    let parted : IsPermutation xs (filter p xs ++ others) =
    IsPermutation-filter_both p (λ y. not (p y)) (λ y. refl) xs in
    let turned : IsPermutation (others ++ filter p xs) xs =
    IsPermutation-trans (others ++ filter p xs) (filter p xs ++ others) xs
    (IsPermutation-append_comm others (filter p xs))
    (IsPermutation-sym xs (filter p xs ++ others) parted) in
    let P : List B → Type 0 = λ l. IsPermutation l (map g xs) in
    merely (subst P images (IsPermutation-map g (others ++ filter p xs) xs turned))

pub same_rows : {R : Type 0} (xs ys : List R) → xs ≡ ys → HaveSameRows xs ys
same_rows xs ys e = let P : List _ → Type 0 = λ l. IsPermutation xs l in
    merely (subst P e (IsPermutation-refl xs))
