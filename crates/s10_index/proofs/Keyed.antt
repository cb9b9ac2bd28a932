-- The calls with their keys.
use Rattle.std.proofs.Common.{◌≡◌, ◌∙◌, ℕ, zero, suc, ◌<◌, Bool, true, false, cond, eqb}
use Rattle.std.proofs.Common.{List, [], ◌∷◌, ◌++◌, Option, Some, None, length, refl, sym, ap, ap₂}
use Rattle.std.proofs.Common.{subst, arith, inl, inr}
use Rattle.std.specs.Prelude.{find, slice_get, All, Contains, IfSome}
use Rattle.std.specs.Option.{option_map, unwrap_or}
use Rattle.std.proofs.lemmas.Bool.{cases_Bool, eqb-true, eq-eqb, and_parts, and_from, both_ways, cases_lt}
use Rattle.std.proofs.lemmas.Bool.{false≢true}
use Rattle.std.proofs.lemmas.List.Elements.{All-push, All-weaker, All-contains}
use Rattle.std.proofs.lemmas.List.Elements.{Contains-get_or}
use Rattle.std.proofs.lemmas.Option.{slice_get_cases}
use Rattle.std.proofs.lemmas.Option.{none-some, slice_get_within, get_or_from_slice_get}
use Rattle.s10_history.specs.declared.entry.Entry.{Entry}
use Rattle.s10_history.specs.History.{has_key, find_entry}
use Rattle.s10_ranges.specs.declared.hash_seed.HashSeed.{HashSeed}
use Rattle.s10_index.specs.LastPlace.{passes_at, last_place}
use Rattle.s10_index.specs.KeyHash.{call_hash}
use Rattle.s10_index.specs.Positions.{HasOwnKey}
use Rattle.s10_index.proofs.LastPlaces.{last_passes_at}

-- The hash of the key of a call.
abbrev pub hash_of_entry : HashSeed → Entry → ℕ
hash_of_entry seed e = call_hash seed e.request.customer e.request.number

-- Calls with the same key have the same hash.
pub key_hash : (seed : HashSeed) (customer number : ℕ) (e : Entry) → has_key customer number e ≡ true
    → hash_of_entry seed e ≡ call_hash seed customer number
key_hash seed customer number e same =
    let both = and_parts (eqb e.request.customer customer) (eqb e.request.number number) same in
    ap₂ (call_hash seed) (eqb-true e.request.customer customer both.0)
    (eqb-true e.request.number number both.1)

-- The element at a place that passes.
pub element_at : {A : Type 0} (p : A → Bool) (xs : List A) (k : ℕ) → passes_at p xs k ≡ true
    → (x : A) × (slice_get xs k ≡ Some x) × (p x ≡ true)
element_at {A} p xs k passes = by (slice_get xs k) refl passes
  where
    by : (o : Option A) → slice_get xs k ≡ o → unwrap_or (option_map p o) false ≡ true
        → (x : A) × (slice_get xs k ≡ Some x) × (p x ≡ true)
    by None at passed = absurd (false≢true passed)
    by (Some x) at passed = (x, at, passed)

-- The call at the last place of a key is the one with the key.
pub found_call : (h : List Entry) (customer number place : ℕ) → All (HasOwnKey h) h
    → last_place (has_key customer number) h (length h) ≡ Some place
    → slice_get h place ≡ find_entry h customer number
found_call h customer number place keys found =
    let at = last_passes_at (has_key customer number) h (length h) place found in
    let e = element_at (has_key customer number) h place at.1 in
    let both = and_parts (eqb e.0.request.customer customer) (eqb e.0.request.number number) e.2 in
    let there : Contains h e.0 =
    (place, slice_get_within h place e.0 e.1, get_or_from_slice_get h place e.0 e.0 e.1) in
    e.1 ∙ sym (All-contains (HasOwnKey h) h e.0 keys there)
    ∙ ap₂ (find_entry h) (eqb-true e.0.request.customer customer both.0)
    (eqb-true e.0.request.number number both.1)

last_there : {A : Type 0} (p : A → Bool) (xs : List A) (n k : ℕ) → k < n → passes_at p xs k ≡ true
    → last_place p xs n ≡ None → ⊥
last_there p xs zero k lt passes none = omega (arith, lt)
last_there p xs (suc n) k lt passes none =
    by (passes_at p xs n) refl (last_there p xs n k) none
  where
    by : (b : Bool) → passes_at p xs n ≡ b
        → (k < n → passes_at p xs k ≡ true → last_place p xs n ≡ None → ⊥)
        → cond b (Some n) (last_place p xs n) ≡ None → ⊥
    by true here rest is = none-some n (sym is)
    by false fails rest is =
        elim (cases_lt k n) [
          | inl low ↦ rest low passes is
          | inr high ↦
              let e : k ≡ n = omega (arith, high, lt) in
              both_ways (passes_at p xs n) fails
              (subst (λ (i : ℕ). passes_at p xs i ≡ true) e passes)
        ]

none_found : {A : Type 0} (p : A → Bool) (xs : List A) → ((k : ℕ) → passes_at p xs k ≡ true → ⊥)
    → find p xs ≡ None
none_found p [] none = refl
none_found p (x ∷ xs) none =
    elim (cases_Bool (p x)) [
      | inl passes ↦ absurd (none 0 passes)
      | inr fails ↦ rw fails (none_found p xs (λ k. none (suc k)))
    ]

-- If there is no last place of a key, there is no call with it.
pub found_none : (h : List Entry) (customer number : ℕ)
    → last_place (has_key customer number) h (length h) ≡ None
    → None ≡ find_entry h customer number
found_none h customer number none =
    let p : Entry → Bool = has_key customer number in
    sym (none_found p h (λ k passes. let e = element_at p h k passes in
    last_there p h (length h) k (slice_get_within h k e.0 e.1) passes none))

own_key : (e : Entry) → has_key e.request.customer e.request.number e ≡ true
own_key e = and_from _ _ (eq-eqb e.request.customer e.request.customer refl)
    (eq-eqb e.request.number e.request.number refl)

find_kept : (p : Entry → Bool) (h : List Entry) (e x : Entry) → find p h ≡ Some x
    → find p (h ++ e ∷ []) ≡ Some x
find_kept p [] e x found = absurd (none-some x found)
find_kept p (y ∷ h) e x found = by (p y) (find_kept p h e x) found
  where
    by : (b : Bool) → (find p h ≡ Some x → find p (h ++ e ∷ []) ≡ Some x)
        → cond b (Some y) (find p h) ≡ Some x → cond b (Some y) (find p (h ++ e ∷ [])) ≡ Some x
    by true rest is = is
    by false rest is = rest is

find_new : (p : Entry → Bool) (h : List Entry) (e : Entry) → find p h ≡ None → p e ≡ true
    → find p (h ++ e ∷ []) ≡ Some e
find_new p [] e none own = ap (λ (b : Bool). cond b (Some e) None) own
find_new p (y ∷ h) e none own = by (p y) refl (find_new p h e) none
  where
    by : (b : Bool) → p y ≡ b → (find p h ≡ None → p e ≡ true → find p (h ++ e ∷ []) ≡ Some e)
        → cond b (Some y) (find p h) ≡ None
        → cond b (Some y) (find p (h ++ e ∷ [])) ≡ Some e
    by true here rest is = absurd (none-some y (sym is))
    by false here rest is = rest is own

-- After a call with a new key, each call is the one with its key.
pub keys_push : (h : List Entry) (e : Entry)
    → find_entry h e.request.customer e.request.number ≡ None → All (HasOwnKey h) h
    → All (HasOwnKey (h ++ e ∷ [])) (h ++ e ∷ [])
keys_push h e new keys =
    let more : List Entry = h ++ e ∷ [] in
    All-push (HasOwnKey more) h e
    (All-weaker (HasOwnKey h) (HasOwnKey more)
    (λ x own. find_kept (has_key x.request.customer x.request.number) h e x own) h keys)
    (find_new (has_key e.request.customer e.request.number) h e new (own_key e))

-- The element at an index is in the list.
pub placed_among : (xs : List Entry) (k : ℕ) → IfSome (slice_get xs k) (Contains xs)
placed_among xs k =
    elim (slice_get_cases xs k).1 [
      | inl here ↦ rw here.2 (subst (Contains xs) here.3 (Contains-get_or xs k here.0 here.1))
      | inr past ↦ rw past.1 tt
    ]
