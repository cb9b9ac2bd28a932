-- Chains of hashes.
use Rattle.std.proofs.Common.{◌≡◌, ◌∙◌, ℕ, suc, ◌+◌, ◌%◌, ◌<◌, ◌≤◌, Bool, true, false, cond}
use Rattle.std.proofs.Common.{eqb, List, [], ◌∷◌, ◌++◌, Option, Some, None, length, get_or, refl, sym}
use Rattle.std.proofs.Common.{ap, subst, arith, inl, inr}
use Rattle.std.specs.Prelude.{slice_get}
use Rattle.std.specs.Option.{option_map, unwrap_or}
use Rattle.std.proofs.Math.ListN.{set, length-set}
use Rattle.std.proofs.Math.Nat.{mod-lt}
use Rattle.std.proofs.lemmas.Bool.{eqb-true, eq-eqb, both_ways, cases_lt}
use Rattle.std.proofs.lemmas.List.{length_push, get_or-set_same, get_or-set_other, get_or_append_left}
use Rattle.std.proofs.Math.Seq.{get_or-append_seam}
use Rattle.s10_index.specs.LastPlace.{passes_at, last_place}
use Rattle.s10_index.specs.HashChains.{link_to, in_bucket, AreEarlier, AreHeads, AreLinked}
use Rattle.s10_index.proofs.LastPlaces.{at_number, last_more, last_link, last_push, last_before_end}
use Rattle.s10_index.proofs.LastPlaces.{last_passes_at, narrowed}

-- A search along a chain.

abbrev pub has_hash : ℕ → ℕ → Bool
has_hash hash other = eqb other hash

-- A hash is in the bucket of an equal one.
own_bucket : (hashes : List ℕ) (buckets hash i : ℕ) → passes_at (has_hash hash) hashes i ≡ true
    → passes_at (in_bucket buckets (hash % buckets)) hashes i ≡ true
own_bucket hashes buckets hash i = by (slice_get hashes i)
  where
    by : (o : Option ℕ) → unwrap_or (option_map (has_hash hash) o) false ≡ true
        → unwrap_or (option_map (in_bucket buckets (hash % buckets)) o) false ≡ true
    by None passes = passes
    by (Some other) passes = eq-eqb (other % buckets) (hash % buckets)
        (ap (λ (m : ℕ). m % buckets) (eqb-true other hash passes))

linked_place : (o : Option ℕ) (i : ℕ) → link_to o ≡ suc i → o ≡ Some i
linked_place None i is = absurd (omega (arith, is))
linked_place (Some j) i is = let e : j ≡ i = omega (arith, is) in ap Some e

-- A search has come so far: the element is among those before `next`, the last of which is in the
-- bucket.
pub record Follows (hashes : List ℕ) (buckets hash n next : ℕ) : Type 0 where
  pub same : last_place (has_hash hash) hashes n ≡ last_place (has_hash hash) hashes next
  pub bucket : (i : ℕ) → next ≡ suc i
      → passes_at (in_bucket buckets (hash % buckets)) hashes i ≡ true

-- It begins with the last one in the bucket.
pub begins : (hashes : List ℕ) (buckets hash n from : ℕ)
    → from ≡ link_to (last_place (in_bucket buckets (hash % buckets)) hashes n)
    → Follows hashes buckets hash n from
begins hashes buckets hash n from is =
    let p : ℕ → Bool = in_bucket buckets (hash % buckets) in
    record {
      same = narrowed p (has_hash hash) hashes hashes n (λ i lt. own_bucket hashes buckets hash i)
          ∙ ap (last_place (has_hash hash) hashes) (sym is);
      bucket = λ i at. (last_passes_at p hashes n i
          (linked_place (last_place p hashes n) i (sym is ∙ at))).1;
    }

here_or_before : (hashes : List ℕ) (buckets hash n next place : ℕ)
    → Follows hashes buckets hash n next → next ≡ place + 1 → place < length hashes
    → last_place (has_hash hash) hashes n
    ≡ cond (has_hash hash (get_or hashes place 0)) (Some place)
    (last_place (has_hash hash) hashes place)
here_or_before hashes buckets hash n next place before at lt =
    before.same ∙ ap (last_place (has_hash hash) hashes) at
    ∙ last_more (has_hash hash) hashes place
    ∙ ap (λ (b : Bool). cond b (Some place) (last_place (has_hash hash) hashes place))
    (at_number (has_hash hash) hashes place lt)

-- If the element there has another hash, it continues with the one before it in the bucket.
pub continues : (hashes earlier : List ℕ) (buckets hash n next place : ℕ)
    → AreEarlier hashes earlier buckets (length hashes) → Follows hashes buckets hash n next
    → next ≡ place + 1 → place < length hashes → has_hash hash (get_or hashes place 0) ≡ false
    → Follows hashes buckets hash n (get_or earlier place 0)
continues hashes earlier buckets hash n next place linked before at lt other =
    let own : get_or hashes place 0 % buckets ≡ hash % buckets =
    eqb-true _ _ (sym (at_number (in_bucket buckets (hash % buckets)) hashes place lt)
    ∙ before.bucket place (omega (arith, at))) in
    let rest = begins hashes buckets hash place (get_or earlier place 0) (linked place lt
    ∙ ap (λ (b : ℕ). link_to (last_place (in_bucket buckets b) hashes place)) own) in
    record {
      same = here_or_before hashes buckets hash n next place before at lt
          ∙ ap (λ (b : Bool). cond b (Some place) (last_place (has_hash hash) hashes place)) other
          ∙ rest.same;
      bucket = rest.bucket;
    }

-- It ends with an element that has the hash, or with none.
pub ends_with : (hashes : List ℕ) (buckets hash n next place : ℕ)
    → Follows hashes buckets hash n next → next ≡ place + 1 → place < length hashes
    → has_hash hash (get_or hashes place 0) ≡ true
    → Some place ≡ last_place (has_hash hash) hashes n
ends_with hashes buckets hash n next place before at lt own =
    sym (here_or_before hashes buckets hash n next place before at lt
    ∙ ap (λ (b : Bool). cond b (Some place) (last_place (has_hash hash) hashes place)) own)

pub ends_without : (hashes : List ℕ) (buckets hash n next : ℕ)
    → Follows hashes buckets hash n next → next ≡ 0 → None ≡ last_place (has_hash hash) hashes n
ends_without hashes buckets hash n next before at =
    sym (before.same ∙ ap (last_place (has_hash hash) hashes) at)

-- Links.

-- Each stored index is one before.
pub links_fall : (hashes earlier heads : List ℕ) → AreLinked hashes earlier heads → (i : ℕ)
    → i < length earlier → get_or earlier i 0 ≤ i
links_fall hashes earlier heads linked i lt =
    omega (
      arith,
      linked.linked i (omega (arith, lt, linked.lengths)),
      last_link (in_bucket (length heads) (get_or hashes i 0 % length heads)) hashes i,
    )

pub head_falls : (hashes earlier heads : List ℕ) → AreLinked hashes earlier heads → (b : ℕ)
    → b < length heads → get_or heads b 0 ≤ length hashes
head_falls hashes earlier heads linked b lt =
    omega (
      arith,
      linked.headed b lt,
      last_link (in_bucket (length heads) b) hashes (length hashes),
    )

-- The heads of the buckets after one more element.
pub heads_push : (hashes heads : List ℕ) (n hash : ℕ) (b : ℕ) → b < length heads
    → hash % length heads < length heads
    → get_or heads b 0 ≡ link_to (last_place (in_bucket (length heads) b) hashes n)
    → get_or (set heads (hash % length heads) (n + 1)) b 0
    ≡ link_to (cond (eqb (hash % length heads) b) (Some n)
    (last_place (in_bucket (length heads) b) hashes n))
heads_push hashes heads n hash b lt within is = by (eqb own b) refl
  where
    own : ℕ
    own = hash % length heads

    by : (t : Bool) → eqb own b ≡ t → get_or (set heads (hash % length heads) (n + 1)) b 0
        ≡ link_to (cond t (Some n) (last_place (in_bucket (length heads) b) hashes n))
    by true same =
        ap (λ (k : ℕ). get_or (set heads own (n + 1)) k 0) (sym (eqb-true own b same))
        ∙ get_or-set_same heads own (n + 1) 0 within
    by false other =
        get_or-set_other heads own b (n + 1) 0
        (λ e. both_ways (eqb own b) other (eq-eqb own b (sym e))) ∙ is

-- The links after one more element.
pub linked_push : (hashes earlier heads : List ℕ) (hash : ℕ) → AreLinked hashes earlier heads
    → length hashes < length heads
    → AreLinked (hashes ++ hash ∷ []) (earlier ++ get_or heads (hash % length heads) 0 ∷ [])
    (set heads (hash % length heads) (length hashes + 1))
linked_push hashes earlier heads hash was few =
    let own : ℕ = hash % length heads in
    let within : own < length heads = mod-lt hash (omega (arith, few)) in
    let more : List ℕ = hashes ++ hash ∷ [] in
    let back : List ℕ = earlier ++ get_or heads own 0 ∷ [] in
    let tops : List ℕ = set heads own (length hashes + 1) in
    let count : length tops ≡ length heads = length-set heads own (length hashes + 1) in
    let long : length more ≡ length hashes + 1 = length_push hashes hash in
    let at : ℕ → ℕ → Type 0 = λ buckets i. get_or back i 0
    ≡ link_to (last_place (in_bucket buckets (get_or more i 0 % buckets)) more i) in
    let top : ℕ → ℕ → Type 0 = λ buckets n. (b : ℕ) → b < length heads
    → get_or tops b 0 ≡ link_to (last_place (in_bucket buckets b) more n) in
    let before : (i : ℕ) → i < length hashes → at (length heads) i =
    λ i lt.
    get_or_append_left earlier (get_or heads own 0 ∷ []) 0 i (omega (arith, lt, was.lengths))
    ∙ was.linked i lt
    ∙ ap (λ (h : ℕ). link_to (last_place (in_bucket (length heads) (h % length heads)) hashes i))
    (sym (get_or_append_left hashes (hash ∷ []) 0 i lt))
    ∙ ap link_to (sym (last_before_end
    (in_bucket (length heads) (get_or more i 0 % length heads)) hashes (hash ∷ []) i
    (omega (arith, lt)))) in
    let new : at (length heads) (length hashes) =
    ap (λ (n : ℕ). get_or back n 0) (sym was.lengths)
    ∙ get_or-append_seam earlier (get_or heads own 0) [] 0
    ∙ was.headed own within
    ∙ ap (λ (h : ℕ). link_to (last_place (in_bucket (length heads) (h % length heads)) hashes
    (length hashes))) (sym (get_or-append_seam hashes hash [] 0))
    ∙ ap link_to (sym (last_before_end
    (in_bucket (length heads) (get_or more (length hashes) 0 % length heads)) hashes (hash ∷ [])
    (length hashes) (omega arith))) in
    let each : (i : ℕ) → i < length more → at (length heads) i =
    λ i lt. elim (cases_lt i (length hashes)) [
      | inl low ↦ before i low
      | inr high ↦
          let e : length hashes ≡ i = omega (arith, high, lt, long) in
          subst (at (length heads)) e new
    ] in
    let headed : top (length heads) (length hashes + 1) =
    λ b lt. heads_push hashes heads (length hashes) hash b lt within (was.headed b lt)
    ∙ ap link_to (sym (last_push (in_bucket (length heads) b) hashes hash)) in
    record {
      lengths = omega (
        arith,
        length_push earlier (get_or heads own 0),
        long,
        was.lengths,
      );
      few = omega (arith, long, count, few);
      limit = omega (arith, count, was.limit);
      linked = subst (λ (buckets : ℕ). (i : ℕ) → i < length more → at buckets i) (sym count) each;
      headed = λ b lt. subst (λ (buckets : ℕ). top buckets (length more)) (sym count)
          (subst (top (length heads)) (sym long) headed) b (omega (arith, lt, count));
    }

-- The links of the elements before the next one, when they are made again.
pub earlier_more : (hashes earlier heads : List ℕ) (place : ℕ) → place < length hashes
    → length earlier ≡ length hashes → 0 < length heads
    → AreEarlier hashes earlier (length heads) place → AreHeads hashes heads place
    → AreEarlier hashes (set earlier place
    (get_or heads (get_or hashes place 0 % length heads) 0)) (length heads) (place + 1)
earlier_more hashes earlier heads place lt lengths some linked headed i le =
    let own : ℕ = get_or hashes place 0 % length heads in
    let within : own < length heads = mod-lt (get_or hashes place 0) some in
    let at : ℕ → Type 0 = λ k. get_or (set earlier place (get_or heads own 0)) k 0
    ≡ link_to (last_place (in_bucket (length heads) (get_or hashes k 0 % length heads)) hashes k) in
    elim (cases_lt i place) [
      | inl low ↦
          get_or-set_other earlier place i (get_or heads own 0) 0 (λ e. omega (arith, e, low))
          ∙ linked i low
      | inr high ↦
          let e : place ≡ i = omega (arith, high, le) in
          subst at e (get_or-set_same earlier place (get_or heads own 0) 0
          (omega (arith, lt, lengths)) ∙ headed own within)
    ]

pub heads_more : (hashes heads : List ℕ) (place : ℕ) → place < length hashes → 0 < length heads
    → AreHeads hashes heads place
    → AreHeads hashes (set heads (get_or hashes place 0 % length heads) (place + 1)) (place + 1)
heads_more hashes heads place lt some headed b within =
    let own : ℕ = get_or hashes place 0 % length heads in
    let count : length (set heads own (place + 1)) ≡ length heads =
    length-set heads own (place + 1) in
    let low : b < length heads = omega (arith, within, count) in
    let P : ℕ → Type 0 = λ buckets. get_or (set heads own (place + 1)) b 0
    ≡ link_to (last_place (in_bucket buckets b) hashes (place + 1)) in
    subst P (sym count) (heads_push hashes heads place (get_or hashes place 0) b low
    (mod-lt (get_or hashes place 0) some) (headed b low)
    ∙ ap (λ (t : Bool). link_to (cond t (Some place)
    (last_place (in_bucket (length heads) b) hashes place)))
    (sym (at_number (in_bucket (length heads) b) hashes place lt))
    ∙ ap link_to (sym (last_more (in_bucket (length heads) b) hashes place)))
