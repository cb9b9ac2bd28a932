-- Searches along a chain for an element that passes a test, by the hash that all such elements have.
use Rattle.std.proofs.Common.{◌≡◌, ◌∙◌, ℕ, ◌<◌, Bool, true, false, cond, List, Option}
use Rattle.std.proofs.Common.{Some, None, length, map, get_or, refl, sym, ap, arith}
use Rattle.std.specs.Prelude.{slice_get}
use Rattle.std.specs.Option.{option_map, unwrap_or}
use Rattle.std.proofs.lemmas.Bool.{eqb-true, eq-eqb}
use Rattle.std.proofs.lemmas.List.{length-map}
use Rattle.std.proofs.lemmas.Option.{slice_get-map}
use Rattle.s10_index.specs.LastPlace.{passes_at, last_place}
use Rattle.s10_index.specs.HashChains.{link_to}
use Rattle.s10_index.proofs.LastPlaces.{at_number, last_more, last_passes_at, narrowed}
use Rattle.s10_index.proofs.Chained.{has_hash}

module _ {A : Type 0} (q : A → Bool) (f : A → ℕ) (hash : ℕ) where
  -- All elements that pass have this hash.
  abbrev pub HaveHash : Type 0
  HaveHash = (x : A) → q x ≡ true → f x ≡ hash

  -- A search has come so far: the element is not after the one that was found last, which has the
  -- hash.
  pub record Walks (xs : List A) (found : Option ℕ) : Type 0 where
    pub same : last_place q xs (length xs) ≡ last_place q xs (link_to found)
    pub hashed : (i : ℕ) → found ≡ Some i → (i < length xs) × (get_or (map f xs) i 0 ≡ hash)

  own_hash : HaveHash → (xs : List A) (i : ℕ) → passes_at q xs i ≡ true
      → passes_at (has_hash hash) (map f xs) i ≡ true
  own_hash own xs i passes =
      ap (λ (o : Option ℕ). unwrap_or (option_map (has_hash hash) o) false) (slice_get-map f xs i)
      ∙ by (slice_get xs i) passes
    where
      by : (o : Option A) → unwrap_or (option_map q o) false ≡ true
          → unwrap_or (option_map (has_hash hash) (option_map f o)) false ≡ true
      by None passed = passed
      by (Some x) passed = eq-eqb (f x) hash (own x passed)

  -- It goes on from the last element before n that has the hash.
  pub walks_from : HaveHash → (xs : List A) (n : ℕ) (found : Option ℕ)
      → last_place q xs (length xs) ≡ last_place q xs n
      → found ≡ last_place (has_hash hash) (map f xs) n
      → ((i : ℕ) → i < n → i < length xs) → Walks xs found
  walks_from own xs n found before is within =
      let p : ℕ → Bool = has_hash hash in
      record {
        same = before
            ∙ narrowed p q (map f xs) xs n (λ i lt. own_hash own xs i)
            ∙ ap (λ (o : Option ℕ). last_place q xs (link_to o)) (sym is);
        hashed = λ i at.
            let passes = last_passes_at p (map f xs) n i (sym is ∙ at) in
            let lt : i < length xs = within i passes.0 in (
              lt,
              eqb-true (get_or (map f xs) i 0) hash
                  (sym (at_number p (map f xs) i (omega (arith, lt, length-map xs f)))
                  ∙ passes.1),
            );
      }

  -- It begins with the last element that has the hash.
  pub walk_begins : HaveHash → (xs : List A) (found : Option ℕ)
      → found ≡ last_place (has_hash hash) (map f xs) (length (map f xs)) → Walks xs found
  walk_begins own xs found is =
      walks_from own xs (length xs) found refl (is ∙ ap (last_place (has_hash hash) (map f xs))
      (length-map xs f)) (λ i lt. lt)

  -- If the element that was found does not pass, it continues with the one before.
  pub walk_continues : HaveHash → (xs : List A) (place : ℕ) (next : Option ℕ)
      → Walks xs (Some place) → passes_at q xs place ≡ false
      → next ≡ last_place (has_hash (get_or (map f xs) place 0)) (map f xs) place → Walks xs next
  walk_continues own xs place next walks fails is =
      let at = walks.hashed place refl in
      walks_from own xs place next
      (walks.same ∙ last_more q xs place
      ∙ ap (λ (b : Bool). cond b (Some place) (last_place q xs place)) fails)
      (is ∙ ap (λ (h : ℕ). last_place (has_hash h) (map f xs) place) at.1)
      (λ i lt. omega (arith, lt, at.0))

  -- It ends with an element that passes, or with none.
  pub walk_ends_with : (xs : List A) (place : ℕ) → Walks xs (Some place)
      → passes_at q xs place ≡ true → Some place ≡ last_place q xs (length xs)
  walk_ends_with xs place walks passes =
      sym (walks.same ∙ last_more q xs place
      ∙ ap (λ (b : Bool). cond b (Some place) (last_place q xs place)) passes)

  pub walk_ends_without : (xs : List A) → Walks xs None → None ≡ last_place q xs (length xs)
  walk_ends_without xs walks = sym walks.same
