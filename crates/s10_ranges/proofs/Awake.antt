-- The awake ranges of a customer in the order of the holders.
use Rattle.std.proofs.Common.{◌≡◌, ◌∙◌, ℕ, ◌+◌, ◌-◌, ◌*◌, ◌<◌, ◌≤◌, ltb, Bool, true, false, ◌&&◌, List}
use Rattle.std.proofs.Common.{length, get_or, sym, ap, ap₂, subst, arith, inl, inr}
use Rattle.std.specs.Prelude.{find, slice_get, slice_range, Some, None}
use Rattle.std.proofs.lemmas.List.Edits.{length-between, get_or-between}
use Rattle.std.proofs.lemmas.Bool.{cases_lt, both_ways, false_from_ne_true, and_parts, and_from}
use Rattle.s10_core.specs.Letters.{AreCapitals}
use Rattle.s10_history.specs.declared.range.Range.{Range}
use Rattle.s10_history.specs.History.{is_held, is_held_after}
use Rattle.s10_history.proofs.Numbering.{above}
use Rattle.s10_ranges.specs.declared.sort_key.SortKey.TheVariants.{Holder}
use Rattle.s10_core.specs.Pair.{pair_of}
use Rattle.s10_ranges.specs.Keys.{holder_key, key_by, IsFitting}
use Rattle.s10_ranges.specs.Order.{range_at, AreIndices}
use Rattle.s10_ranges.specs.Sound.{AreSound}
use Rattle.s10_ranges.specs.declared.mark.Mark.{Mark}
use Rattle.s10_ranges.specs.declared.rest.Rest.{Rest}
use Rattle.s10_ranges.specs.declared.rest.Rest.TheVariants.{Unknown}
use Rattle.s10_ranges.specs.Rests.{is_resting_at, rests_on, rests_along}
use Rattle.s10_ranges.proofs.Orders.{at_place}
use Rattle.s10_ranges.proofs.Found.{none_in_order, first_in_order}
use Rattle.s10_ranges.proofs.HeldOrder.{IsCut, IsHeld, held_parts, held_from, held_order, not_before}
use Rattle.s10_ranges.proofs.HeldOrder.{pair_parts}
use Rattle.s10_core.proofs.Pairs.{pair_fits, one_pair}

-- If y·2^32 + n is at least x·2^32 + m, and below (x + 1)·2^32, then x and y are equal.
same_upper : (x y n m : ℕ) → n < 4294967296 → x * 4294967296 + m ≤ y * 4294967296 + n
    → y * 4294967296 + n < x * 4294967296 + 4294967296 → x ≡ y
same_upper x y n m small le lt = omega arith

-- A range whose key is between that of the next number and that of the greatest is held.
held_within : (after customer : ℕ) (s c : ℕ × ℕ) (r : Range) → AreCapitals s → AreCapitals c
    → IsFitting r → r.num < 4294967296 → holder_key customer s c (after + 1) ≤ key_by Holder r
    → key_by Holder r < holder_key customer s c 4294967296 → IsHeld after customer s c r
unfolding holder_key
held_within after customer s c r cs cc fit small le lt =
    let same = same_upper (customer * 4294967296 + pair_of s c)
    (r.holder * 4294967296 + pair_of r.service r.country) r.num (after + 1) small le lt in
    let fits1 : pair_of s c < 4294967296 = pair_fits s c cs cc in
    let fits2 : pair_of r.service r.country < 4294967296 = pair_fits r.service r.country fit.service
    fit.country in
    let both = pair_parts customer (pair_of s c) r.holder (pair_of r.service r.country) fits1 fits2
    same in
    let letters = one_pair s c r.service r.country cs cc fit.service fit.country both.1 in
    record {
      above = omega (arith, le, same);
      holder = sym both.0;
      service = sym letters.0;
      country = sym letters.1;
    }

-- The key of a held range is below that of the greatest number.
held_below : (after customer : ℕ) (s c : ℕ × ℕ) (r : Range) → r.num < 4294967296
    → IsHeld after customer s c r → key_by Holder r < holder_key customer s c 4294967296
unfolding holder_key
held_below after customer s c r small h =
    let pairs : pair_of r.service r.country ≡ pair_of s c = ap₂ pair_of h.service h.country in
    omega (arith, small, h.holder, pairs)

-- The held ranges are those from the cut up to the stop.
pub record IsHeldRun (rs : List Range) (order : List ℕ) (after customer : ℕ) (s c : ℕ × ℕ)
    (start stop low : ℕ) : Type 0 where
  pub cut : IsCut rs order after customer s c start low
  pub fits : stop ≤ length order
  pub below : (j : ℕ) (d : Range) → j < stop
      → key_by Holder (range_at rs order j d) < holder_key customer s c 4294967296
  pub above : (j : ℕ) (d : Range) → stop ≤ j → j < length order
      → holder_key customer s c 4294967296 ≤ key_by Holder (range_at rs order j d)

held_run_parts : (rs : List Range) (order : List ℕ) (after customer : ℕ) (s c : ℕ × ℕ)
    (start stop low : ℕ) → IsHeldRun rs order after customer s c start stop low → (j : ℕ) (d : Range)
    → start ≤ j → j < stop → IsHeld after customer s c (range_at rs order j d)
held_run_parts rs order after customer s c start stop low run j d from upto =
    let inside : j < length order = omega (arith, upto, run.fits) in
    let at = run.cut.sound (get_or order j 0) d (run.cut.held.places j inside) in
    let key = run.cut.above j d from inside in
    held_within after customer s c (range_at rs order j d) run.cut.service run.cut.country
    at.fitting at.small (omega (arith, key, run.cut.key_is)) (run.below j d upto)

held_run_upto : (rs : List Range) (order : List ℕ) (after customer : ℕ) (s c : ℕ × ℕ)
    (start stop low : ℕ) → IsHeldRun rs order after customer s c start stop low → (j : ℕ) (d : Range)
    → j < length order → is_held_after after customer s c (range_at rs order j d) ≡ true → j < stop
held_run_upto rs order after customer s c start stop low run j d inside hit =
    let at = run.cut.sound (get_or order j 0) d (run.cut.held.places j inside) in
    let key = held_below after customer s c (range_at rs order j d) at.small
    (held_parts after customer s c (range_at rs order j d) hit) in
    elim (cases_lt j stop) [
      | inl lt ↦ lt
      | inr ge ↦ let high = run.above j d ge inside in absurd (omega (arith, key, high))
    ]

both_hold : (p : Range → Bool) (after customer : ℕ) (s c : ℕ × ℕ) (r : Range)
    → above (λ x. is_held customer s c x && p x) after r ≡ true
    → (is_held_after after customer s c r ≡ true) × (p r ≡ true)
both_hold p after customer s c r hit =
    let one = and_parts (ltb after r.num) (is_held customer s c r && p r) hit in
    let two = and_parts (is_held customer s c r) (p r) one.1 in
    (and_from (ltb after r.num) (is_held customer s c r) one.0 two.0, two.1)

both_from : (p : Range → Bool) (after customer : ℕ) (s c : ℕ × ℕ) (r : Range)
    → IsHeld after customer s c r → p r ≡ true
    → above (λ x. is_held customer s c x && p x) after r ≡ true
both_from p after customer s c r held passes =
    let one = and_parts (ltb after r.num) (is_held customer s c r)
    (held_from after customer s c r held) in
    and_from (ltb after r.num) (is_held customer s c r && p r) one.0
    (and_from (is_held customer s c r) (p r) one.1 passes)

-- The first range of the run that passes is found.
pub held_run_found : (rs : List Range) (order : List ℕ) (after customer : ℕ) (s c : ℕ × ℕ)
    (start stop low : ℕ) (p : Range → Bool) (m : ℕ) (r : Range)
    → IsHeldRun rs order after customer s c start stop low → start ≤ m → m < stop
    → get_or rs (get_or order m 0) r ≡ r → p r ≡ true
    → ((j : ℕ) (d : Range) → start ≤ j → j < m → p (range_at rs order j d) ≡ false)
    → find (above (λ x. is_held customer s c x && p x) after) rs ≡ Some r
held_run_found rs order after customer s c start stop low p m r run from upto is passes none =
    let inside : m < length order = omega (arith, upto, run.fits) in
    let here : (d : Range) → range_at rs order m d ≡ r = λ d. at_place rs (get_or order m 0) d r
    (run.cut.held.places m inside) is in
    let held : IsHeld after customer s c r = subst (IsHeld after customer s c) (here r)
    (held_run_parts rs order after customer s c start stop low run m r from upto) in
    first_in_order (key_by Holder) (key_by Holder) rs order run.cut.held
    (above (λ x. is_held customer s c x && p x) after) m r inside is
    (both_from p after customer s c r held passes)
    (λ j d lt also.
    let two = both_hold p after customer s c (range_at rs order j d) also in
    let ge = not_before rs order after customer s c start low run.cut j d two.0 in
    let num_here : (range_at rs order m d).num ≡ r.num = ap (λ (x : Range). x.num) (here d) in
    let key_here : key_by Holder (range_at rs order m d) ≡ key_by Holder r =
    ap (key_by Holder) (here d) in
    let one = run.cut.sound (get_or order m 0) d (run.cut.held.places m inside) in
    let other = run.cut.sound (get_or order j 0) d (run.cut.held.places j lt) in
    elim (cases_lt j m) [
      | inl before ↦ absurd (both_ways (p (range_at rs order j d)) (none j d ge before) two.1)
      | inr le ↦ elim (cases_lt m j) [
        | inl gt ↦
            let up = run.cut.held.apart m j d gt lt in
            let nums = held_order after customer s c r (range_at rs order j d) held
            (held_parts after customer s c (range_at rs order j d) two.0)
            (omega (arith, up, key_here)) in
            omega (arith, nums, num_here, one.num, other.num)
        | inr same ↦ let e : m ≡ j = omega (arith, le, same) in let at : get_or order m 0
            ≡ get_or order j 0 = ap (λ i. get_or order i 0) e in omega (arith, at)
      ]
    ])

-- If no range of the run passes, none is found.
pub held_run_none : (rs : List Range) (order : List ℕ) (after customer : ℕ) (s c : ℕ × ℕ)
    (start stop low : ℕ) (p : Range → Bool) → IsHeldRun rs order after customer s c start stop low
    → ((j : ℕ) (d : Range) → start ≤ j → j < stop → p (range_at rs order j d) ≡ false)
    → find (above (λ x. is_held customer s c x && p x) after) rs ≡ None
held_run_none rs order after customer s c start stop low p run none =
    none_in_order (key_by Holder) (key_by Holder) rs order run.cut.held
    (above (λ x. is_held customer s c x && p x) after)
    (λ j d lt. false_from_ne_true (above (λ x. is_held customer s c x && p x) after
    (range_at rs order j d)) (λ also.
    let two = both_hold p after customer s c (range_at rs order j d) also in
    let ge = not_before rs order after customer s c start low run.cut j d two.0 in
    let upto = held_run_upto rs order after customer s c start stop low run j d lt two.0 in
    both_ways (p (range_at rs order j d)) (none j d ge upto) two.1))

-- Whether the range at a position of the order rests, by its index.
pub rests_is : (rs : List Range) (order : List ℕ) (marks : List Mark) (rests : List Rest) (day n : ℕ)
    → AreSound rs → AreIndices rs order → (j : ℕ) (d : Range) → j < length order
    → rests_on marks rests day n (range_at rs order j d)
    ≡ is_resting_at (slice_get marks (get_or order j 0)) (get_or rests (get_or order j 0) Unknown)
    day n
rests_is rs order marks rests day n sound places j d lt =
    let at = sound (get_or order j 0) d (places j lt) in
    let place : (range_at rs order j d).num - 1 ≡ get_or order j 0 = omega (arith, at.num) in
    ap (λ i. is_resting_at (slice_get marks i) (get_or rests i Unknown) day n) place

-- The index at a position of a part of the order.
pub part_index : (order part : List ℕ) (from to k : ℕ) → part ≡ slice_range order from to
    → to ≤ length order → k < length part → (from + k < to)
    × (get_or order (from + k) 0 ≡ get_or part k 0)
part_index order part from to k is within lt =
    let long = length-between order from to within in
    let inside : from + k < to = omega (arith, long, ap length is, lt) in
    (inside, sym (ap (λ l. get_or l k 0) is ∙ get_or-between order from to k 0 inside))

-- Whether a range rests depends on its index alone.
pub rests_moved : (marks : List Mark) (rests : List Rest) (order part : List ℕ) (day n i k : ℕ)
    → get_or order i 0 ≡ get_or part k 0
    → rests_along marks rests order day n i ≡ rests_along marks rests part day n k
rests_moved marks rests order part day n i k same =
    ap (λ j. is_resting_at (slice_get marks j) (get_or rests j Unknown) day n) same

-- The ranges before a part rest, and so do the first of the part.
pub rests_before : (marks : List Mark) (rests : List Rest) (order part : List ℕ)
    (day n start from to k : ℕ) → part ≡ slice_range order from to → to ≤ length order
    → k ≤ length part
    → ((j : ℕ) → start ≤ j → j < from → rests_along marks rests order day n j ≡ true)
    → ((i : ℕ) → i < k → rests_along marks rests part day n i ≡ true)
    → (j : ℕ) → start ≤ j → j < from + k → rests_along marks rests order day n j ≡ true
rests_before marks rests order part day n start from to k is within few before here j le lt =
    elim (cases_lt j from) [
      | inl less ↦ before j le less
      | inr ge ↦
          let i : ℕ = j - from in
          let at = part_index order part from to i is within (omega (arith, few, lt)) in
          let there : from + i ≡ j = omega arith in
          rests_moved marks rests order part day n j i
          (ap (λ x. get_or order x 0) (sym there) ∙ at.1) ∙ here i (omega (arith, lt))
    ]
