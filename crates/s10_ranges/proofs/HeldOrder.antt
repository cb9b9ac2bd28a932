-- The ranges of a customer in the order of the holders.
use Rattle.std.proofs.Common.{◌≡◌, ◌∙◌, ℕ, ◌+◌, ◌*◌, ◌<◌, ◌≤◌, true, false, List, length, get_or}
use Rattle.std.proofs.Common.{sym, ap, ap₂, arith, inl, inr}
use Rattle.std.specs.Prelude.{find, Some, None}
use Rattle.std.proofs.lemmas.Bool.{cases_lt, both_ways, false_from_ne_true, and_parts, and_from}
use Rattle.std.proofs.lemmas.Bool.{ltb-true, lt-ltb, eqb-true, eq-eqb}
use Rattle.s10_core.specs.Letters.{AreCapitals}
use Rattle.s10_history.specs.declared.range.Range.{Range}
use Rattle.s10_history.specs.History.{is_held_after}
use Rattle.s10_book.proofs.Apart.{letters_equal, letters_same}
use Rattle.s10_ranges.specs.declared.sort_key.SortKey.TheVariants.{Holder}
use Rattle.s10_core.specs.Pair.{pair_of}
use Rattle.s10_ranges.specs.Keys.{holder_key, key_by, IsFitting}
use Rattle.s10_ranges.specs.Order.{range_at, IsOrder}
use Rattle.s10_ranges.specs.Sound.{AreSound}
use Rattle.s10_ranges.proofs.Orders.{at_place}
use Rattle.s10_ranges.proofs.Found.{none_in_order, first_in_order}
use Rattle.s10_core.proofs.Pairs.{pair_fits, one_pair}

-- The range is the customer's, of that service and country, with a number above another.
pub record IsHeld (after customer : ℕ) (s c : ℕ × ℕ) (r : Range) : Type 0 where
  pub above : after < r.num
  pub holder : r.holder ≡ customer
  pub service : r.service ≡ s
  pub country : r.country ≡ c

pub held_parts : (after customer : ℕ) (s c : ℕ × ℕ) (r : Range) → is_held_after after customer s c r
    ≡ true → IsHeld after customer s c r
held_parts after customer s c r hit =
    let a = and_parts _ _ hit in
    let b = and_parts _ _ a.1 in
    let d = and_parts _ _ b.0 in
    record {
      above = ltb-true after r.num a.0;
      holder = eqb-true r.holder customer d.0;
      service = letters_equal r.service s d.1;
      country = letters_equal r.country c b.1;
    }

pub held_from : (after customer : ℕ) (s c : ℕ × ℕ) (r : Range) → IsHeld after customer s c r
    → is_held_after after customer s c r ≡ true
held_from after customer s c r h =
    and_from _ _ (lt-ltb after r.num h.above)
    (and_from _ _ (and_from _ _ (eq-eqb r.holder customer h.holder)
    (letters_same r.service s h.service)) (letters_same r.country c h.country))

-- The key of a held range is not below the key of the next number.
pub held_key : (after customer : ℕ) (s c : ℕ × ℕ) (r : Range) → IsHeld after customer s c r
    → holder_key customer s c (after + 1) ≤ key_by Holder r
unfolding holder_key
held_key after customer s c r h =
    let pairs : pair_of r.service r.country ≡ pair_of s c = ap₂ pair_of h.service h.country in
    omega (arith, h.above, h.holder, pairs)

-- Of two held ranges the one with the lower number has the lower key.
pub held_order : (after customer : ℕ) (s c : ℕ × ℕ) (r q : Range) → IsHeld after customer s c r
    → IsHeld after customer s c q → key_by Holder r < key_by Holder q → r.num < q.num
unfolding holder_key
held_order after customer s c r q h g lt =
    let one : pair_of r.service r.country ≡ pair_of s c = ap₂ pair_of h.service h.country in
    let two : pair_of q.service q.country ≡ pair_of s c = ap₂ pair_of g.service g.country in
    omega (arith, h.holder, g.holder, one, two, lt)

-- If y·2^32 + n is at least x·2^32 + m, and below x·2^32 + k, then x and y are equal.
middle : (x y n m k : ℕ) → n < 4294967296 → k < 4294967296 → x * 4294967296 + m ≤ y * 4294967296 + n
    → y * 4294967296 + n < x * 4294967296 + k → x ≡ y
middle x y n m k small large le lt = omega arith

pub pair_parts : (h p i q : ℕ) → p < 4294967296 → q < 4294967296 → h * 4294967296 + p ≡ i * 4294967296 + q
    → (h ≡ i) × (p ≡ q)
pair_parts h p i q small large e = let first : h ≡ i = omega arith in (first, omega arith)

-- A range whose key is between the key of the next number and that of a held range is held.
pub held_between : (after customer : ℕ) (s c : ℕ × ℕ) (r q : Range) → AreCapitals s → AreCapitals c
    → IsFitting r → r.num < 4294967296 → q.num < 4294967296 → IsHeld after customer s c q
    → holder_key customer s c (after + 1) ≤ key_by Holder r → key_by Holder r < key_by Holder q
    → IsHeld after customer s c r
unfolding holder_key
held_between after customer s c r q cs cc fit small large g le lt =
    let two : pair_of q.service q.country ≡ pair_of s c = ap₂ pair_of g.service g.country in
    let lt' : (r.holder * 4294967296 + pair_of r.service r.country) * 4294967296 + r.num
    < (customer * 4294967296 + pair_of s c) * 4294967296 + q.num =
    omega (arith, lt, two, g.holder) in
    let same = middle (customer * 4294967296 + pair_of s c)
    (r.holder * 4294967296 + pair_of r.service r.country) r.num (after + 1) q.num small large le
    lt' in
    let fits1 : pair_of s c < 4294967296 = pair_fits s c cs cc in
    let fits2 : pair_of r.service r.country < 4294967296 = pair_fits r.service r.country fit.service
    fit.country in
    let both = pair_parts customer (pair_of s c) r.holder (pair_of r.service r.country) fits1 fits2
    same in
    let letters = one_pair s c r.service r.country cs cc fit.service fit.country both.1 in
    record {
      above = omega (arith, le, same);
      holder = sym both.0;
      service = sym letters.0;
      country = sym letters.1;
    }

-- What is known of the order before and after the key of the next number (the cut).
pub record IsCut (rs : List Range) (order : List ℕ) (after customer : ℕ) (s c : ℕ × ℕ)
    (at key : ℕ) : Type 0 where
  pub sound : AreSound rs
  pub held : IsOrder (key_by Holder) (key_by Holder) rs order
  pub service : AreCapitals s
  pub country : AreCapitals c
  pub key_is : key ≡ holder_key customer s c (after + 1)
  pub below : (j : ℕ) (d : Range) → j < at → key_by Holder (range_at rs order j d) < key
  pub above : (j : ℕ) (d : Range) → at ≤ j → j < length order
      → key ≤ key_by Holder (range_at rs order j d)

-- A held range is not before the cut.
pub not_before : (rs : List Range) (order : List ℕ) (after customer : ℕ) (s c : ℕ × ℕ) (at key : ℕ)
    → IsCut rs order after customer s c at key
    → (j : ℕ) (d : Range) → is_held_after after customer s c (range_at rs order j d) ≡ true → at ≤ j
not_before rs order after customer s c at key cut j d hit =
    let up = held_key after customer s c (range_at rs order j d)
    (held_parts after customer s c (range_at rs order j d) hit) in
    elim (cases_lt j at) [
      | inl lt ↦ let low = cut.below j d lt in absurd (omega (arith, up, low, cut.key_is))
      | inr ge ↦ ge
    ]

-- None is found if the cut is the end of the order.
pub held_past : (rs : List Range) (order : List ℕ) (after customer : ℕ) (s c : ℕ × ℕ) (at key : ℕ)
    → IsCut rs order after customer s c at key → at ≡ length order
    → find (is_held_after after customer s c) rs ≡ None
held_past rs order after customer s c at key cut end =
    none_in_order (key_by Holder) (key_by Holder) rs order cut.held
    (is_held_after after customer s c)
    (λ j d lt. false_from_ne_true (is_held_after after customer s c (range_at rs order j d))
    (λ hit. let ge = not_before rs order after customer s c at key cut j d hit in
    absurd (omega (arith, ge, end, lt))))

-- The range at the cut is found if it is held.
pub held_found : (rs : List Range) (order : List ℕ) (after customer : ℕ) (s c : ℕ × ℕ) (at key : ℕ)
    (r : Range) → IsCut rs order after customer s c at key → at < length order
    → get_or rs (get_or order at 0) r ≡ r → is_held_after after customer s c r ≡ true
    → find (is_held_after after customer s c) rs ≡ Some r
held_found rs order after customer s c at key r cut inside is hit =
    first_in_order (key_by Holder) (key_by Holder) rs order cut.held
    (is_held_after after customer s c) at r inside is hit
    (λ j d lt also.
    let ge = not_before rs order after customer s c at key cut j d also in
    let here : range_at rs order at d ≡ r = at_place rs (get_or order at 0) d r
    (cut.held.places at inside) is in
    let num_here : (range_at rs order at d).num ≡ r.num = ap (λ (x : Range). x.num) here in
    let key_here : key_by Holder (range_at rs order at d) ≡ key_by Holder r =
    ap (key_by Holder) here in
    let one = cut.sound (get_or order at 0) d (cut.held.places at inside) in
    let two = cut.sound (get_or order j 0) d (cut.held.places j lt) in
    elim (cases_lt at j) [
      | inl gt ↦
          let up = cut.held.apart at j d gt lt in
          let nums = held_order after customer s c r (range_at rs order j d)
          (held_parts after customer s c r hit)
          (held_parts after customer s c (range_at rs order j d) also)
          (omega (arith, up, key_here)) in
          omega (arith, nums, num_here, one.num, two.num)
      | inr le ↦ let e : at ≡ j = omega (arith, ge, le) in let same : get_or order at 0
          ≡ get_or order j 0 = ap (λ i. get_or order i 0) e in omega (arith, same)
    ])

-- None is found if the range at the cut is not held.
pub held_missed : (rs : List Range) (order : List ℕ) (after customer : ℕ) (s c : ℕ × ℕ) (at key : ℕ)
    (r : Range) → IsCut rs order after customer s c at key → at < length order
    → get_or rs (get_or order at 0) r ≡ r → is_held_after after customer s c r ≡ false
    → find (is_held_after after customer s c) rs ≡ None
held_missed rs order after customer s c at key r cut inside is miss =
    none_in_order (key_by Holder) (key_by Holder) rs order cut.held
    (is_held_after after customer s c)
    (λ j d lt. false_from_ne_true (is_held_after after customer s c (range_at rs order j d))
    (λ also.
    let ge = not_before rs order after customer s c at key cut j d also in
    let here : range_at rs order at d ≡ r = at_place rs (get_or order at 0) d r
    (cut.held.places at inside) is in
    let miss_here : is_held_after after customer s c (range_at rs order at d) ≡ false =
    ap (is_held_after after customer s c) here ∙ miss in
    let one = cut.sound (get_or order at 0) d (cut.held.places at inside) in
    let two = cut.sound (get_or order j 0) d (cut.held.places j lt) in
    elim (cases_lt at j) [
      | inl gt ↦
          let up = cut.held.apart at j d gt lt in
          let low = cut.above at d (omega arith) inside in
          let fact = held_between after customer s c (range_at rs order at d)
          (range_at rs order j d) cut.service cut.country one.fitting one.small two.small
          (held_parts after customer s c (range_at rs order j d) also)
          (omega (arith, low, cut.key_is)) up in
          both_ways (is_held_after after customer s c (range_at rs order at d)) miss_here
          (held_from after customer s c (range_at rs order at d) fact)
      | inr le ↦
          let e : at ≡ j = omega (arith, ge, le) in
          both_ways (is_held_after after customer s c (range_at rs order j d))
          (ap (λ i. is_held_after after customer s c (range_at rs order i d)) (sym e)
          ∙ miss_here) also
    ]))

other_key : (h p q n m : ℕ) → n < m → n < 4294967296 → m < 4294967296 → h * 4294967296 + m
    ≡ q * 4294967296 + n → ⊥
other_key h p q n m lt small large e = omega arith

-- After the position of a new range each key is above its own.
pub held_apart : (rs : List Range) (order : List ℕ) (r : Range) (at key : ℕ) → AreSound rs
    → IsOrder (key_by Holder) (key_by Holder) rs order → length rs < 4294967295
    → r.num ≡ length rs + 1
    → key ≡ key_by Holder r → ((j : ℕ) (d : Range) → at ≤ j → j < length order
    → key ≤ key_by Holder (range_at rs order j d))
    → (j : ℕ) (d : Range) → at ≤ j → j < length order
    → key_by Holder r < key_by Holder (range_at rs order j d)
unfolding holder_key
held_apart rs order r at key sound held few num key_is above j d le lt =
    let up = above j d le lt in
    let place = held.places j lt in
    let one = sound (get_or order j 0) d place in
    let old = range_at rs order j d in
    let below : old.num < r.num = omega (arith, one.num, num, place) in
    let small : r.num < 4294967296 = omega (arith, num, few) in
    let le' : (r.holder * 4294967296 + pair_of r.service r.country) * 4294967296 + r.num
    ≤ (old.holder * 4294967296 + pair_of old.service old.country) * 4294967296 + old.num =
    omega (arith, up, key_is) in
    elim (cases_lt ((r.holder * 4294967296 + pair_of r.service r.country) * 4294967296 + r.num)
    ((old.holder * 4294967296 + pair_of old.service old.country) * 4294967296 + old.num)) [
      | inl less ↦ less
      | inr ge ↦ absurd (other_key (r.holder * 4294967296 + pair_of r.service r.country) 0
          (old.holder * 4294967296 + pair_of old.service old.country) old.num r.num below one.small
          small (omega (arith, le', ge)))
    ]
