-- The last issuance of an identifier in a growing list.
use Rattle.std.proofs.Common.{◌≡◌, ℕ, ◌+◌, ◌-◌, leb, ◌<◌, Bool, true, false, cond, List, [], ◌∷◌}
use Rattle.std.proofs.Common.{◌++◌, Option, Some, None, refl, sym, ap, ◌∙◌, length, get_or, take}
use Rattle.std.proofs.Common.{append-nil, inl, inr, subst}
use Rattle.std.specs.Prelude.{filter, All}
use Rattle.std.specs.List.{last_or, list_any}
use Rattle.std.proofs.lemmas.Bool.{cases_Bool, or_parts}
use Rattle.std.proofs.lemmas.Option.{none-some, same_Some}
use Rattle.std.specs.Option.{option_map}
use Rattle.std.proofs.lemmas.List.{take_more}
use Rattle.std.proofs.lemmas.List.Elements.{All-head, All-tail, filter-append}
use Rattle.s10_core.specs.declared.id.Id.{Id}
use Rattle.s10_history.specs.declared.issue.Issue.{Issue}
use Rattle.s10_history.specs.declared.issuance.Issuance.{Issuance}
use Rattle.s10_history.specs.Issues.{is_of, last_issuance_of, is_free_since}

pub last_or-push : {A : Type 0} (o : Option A) (xs : List A) (y : A) → last_or o (xs ++ y ∷ [])
    ≡ Some y
last_or-push o [] y = refl
last_or-push o (x ∷ xs) y = last_or-push (Some x) xs y

last-find_entry : {A : Type 0} (b : Bool) (xs : List A) (y : A)
    → last_or None (xs ++ cond b (y ∷ []) []) ≡ cond b (Some y) (last_or None xs)
last-find_entry true xs y = last_or-push None xs y
last-find_entry false xs y = ap (last_or None) (append-nil xs)

pub last_or-more : {A : Type 0} (o : Option A) (xs : List A) (l : A) → last_or None xs ≡ Some l
    → last_or o xs ≡ Some l
last_or-more o [] l e = absurd (none-some l e)
last_or-more o (x ∷ xs) l e = e

-- A property of each element holds of the last one that passes.
pub last_all : (P : Issuance → Type 0) (p : Issuance → Bool) (o : Option Issuance)
    (xs : List Issuance) (l : Issuance) → All P xs → ((m : Issuance) → o ≡ Some m → P m)
    → last_or o (filter p xs) ≡ Some l → P l
last_all P p o [] l all from e = from l e
last_all P p o (x ∷ xs) l all from e =
    elim (cases_Bool (p x)) [
      | inl t ↦ last_all P p (Some x) xs l (All-tail P x xs all)
          (λ m s. subst P (same_Some x m s) (All-head P x xs all)) (rw t at e)
      | inr f ↦ last_all P p o xs l (All-tail P x xs all) from (rw f at e)
    ]

-- If no element passes, the filtered list is empty.
pub none_filter : {A : Type 0} (p : A → Bool) (xs : List A) → list_any p xs ≡ false
    → filter p xs ≡ []
none_filter p [] h = refl
none_filter p (x ∷ xs) h = let both = or_parts (p x) (list_any p xs) h in
    rw both.0 (none_filter p xs both.1)

-- The last issuance after one more at the end.
pub last_issuance_of-push : (xs : List Issuance) (y : Issuance) (x : Id)
    → last_issuance_of (xs ++ y ∷ []) x ≡ cond (is_of x y) (Some y) (last_issuance_of xs x)
last_issuance_of-push xs y x = ap (last_or None) (filter-append (is_of x) xs (y ∷ []))
    ∙ last-find_entry (is_of x y) (filter (is_of x) xs) y

pub last_issuance_of-more : (xs : List Issuance) (i : ℕ) (d : Issuance) (x : Id) → i < length xs
    → last_issuance_of (take (i + 1) xs) x ≡ cond (is_of x (get_or xs i d)) (Some (get_or xs i d))
    (last_issuance_of (take i xs) x)
last_issuance_of-more xs i d x h = ap (λ l. last_issuance_of l x) (take_more xs i d h)
    ∙ last_issuance_of-push (take i xs) (get_or xs i d) x

-- One step of a loop, by its element and its test.
pub last_issuance_of-step : (xs : List Issuance) (i : ℕ) (d : Issuance) (x : Id) (b : Bool)
    → i < length xs → d ≡ get_or xs i d → b ≡ is_of x d → last_issuance_of (take (i + 1) xs) x
    ≡ cond b (Some d) (last_issuance_of (take i xs) x)
last_issuance_of-step xs i d x b h e t =
    last_issuance_of-more xs i d x h
    ∙ ap (λ y. cond (is_of x y) (Some y) (last_issuance_of (take i xs) x)) (sym e)
    ∙ ap (λ c. cond c (Some d) (last_issuance_of (take i xs) x)) (sym t)

-- Only the day of an issuance decides whether an identifier is free.
pub free_last : (day interval : ℕ) (o : Option Issuance) (f : Issuance → Issue)
    → ((i : Issuance) → (f i).day ≡ i.day)
    → is_free_since day interval (option_map (λ (i : Issue). i.day) (option_map f o))
    ≡ is_free_since day interval (option_map (λ (i : Issuance). i.day) o)
free_last day interval None f same = refl
free_last day interval (Some i) f same = ap (λ d. leb interval (day - d)) (same i)
