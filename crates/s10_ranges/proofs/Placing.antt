-- The ranges of a service and a country in the order by serial.
use Rattle.std.proofs.Common.{◌≡◌, ◌∙◌, ℕ, ◌+◌, ◌*◌, ◌<◌, ◌≤◌, ◌^◌, true, false, List, length}
use Rattle.std.proofs.Common.{get_or, sym, ap, ap₂, arith, inl, inr}
use Rattle.std.specs.Prelude.{find, Some, None}
use Rattle.std.proofs.lemmas.Bool.{cases_lt, both_ways, false_from_ne_true, and_parts, leb-true}
use Rattle.s10_core.specs.Letters.{AreCapitals}
use Rattle.s10_core.specs.Serial.{IsSerial}
use Rattle.s10_history.specs.declared.range.Range.{Range}
use Rattle.s10_history.specs.History.{overlaps}
use Rattle.s10_book.proofs.Apart.{letters_equal, overlapping}
use Rattle.s10_ranges.specs.declared.sort_key.SortKey.TheVariants.{First, Last}
use Rattle.s10_core.specs.Pair.{pair_of}
use Rattle.s10_ranges.specs.Keys.{serial_key, key_by, IsFitting}
use Rattle.s10_ranges.specs.Order.{range_at, IsRising, IsOrder, IsLeastIn}
use Rattle.s10_ranges.specs.Sound.{AreSound}
use Rattle.s10_ranges.proofs.Orders.{rising_low, rising_high}
use Rattle.s10_ranges.proofs.Found.{none_in_order, first_in_order, find_none, none_found}
use Rattle.s10_core.proofs.Pairs.{one_pair}

-- A range that overlaps a span does not end before its first serial, and does not begin after its
-- last.
pub over_keys : (s c : ℕ × ℕ) (first last : ℕ) (r : Range) → overlaps s c first last r ≡ true
    → (serial_key s c first ≤ key_by Last r) × (key_by First r ≤ serial_key s c last)
unfolding serial_key
over_keys s c first last r hit =
    let a = and_parts _ _ hit in
    let b = and_parts _ _ a.0 in
    let d = and_parts _ _ b.0 in
    let e = and_parts _ _ d.0 in
    let pairs : pair_of r.service r.country ≡ pair_of s c =
    ap₂ pair_of (letters_equal r.service s e.0) (letters_equal r.country c e.1) in
    let below : first ≤ r.last = leb-true first r.last b.1 in
    let above : r.first ≤ last = leb-true r.first last d.1 in
    (omega (arith, pairs, below), omega (arith, pairs, above))

same_first : (x y a b m n : ℕ) → a < 10 ^ 8 → b < 10 ^ 8 → m < 10 ^ 8 → n < 10 ^ 8
    → x * 4294967296 + m ≤ y * 4294967296 + a → y * 4294967296 + b ≤ x * 4294967296 + n → x ≡ y
same_first x y a b m n p q u v le le' = omega arith

-- A range that does not end before the first serial, and does not begin after the last, overlaps
-- the span.
pub over_from : (s c : ℕ × ℕ) (first last : ℕ) (r : Range) → AreCapitals s → AreCapitals c
    → IsSerial first → IsSerial last → first ≤ last → IsFitting r
    → serial_key s c first ≤ key_by Last r → key_by First r ≤ serial_key s c last
    → overlaps s c first last r ≡ true
unfolding serial_key
over_from s c first last r cs cc fs ls order fit low high =
    let same : pair_of s c ≡ pair_of r.service r.country =
    same_first (pair_of s c) (pair_of r.service r.country) r.last r.first first last fit.last
    fit.first fs ls low high in
    let letters = one_pair s c r.service r.country cs cc fit.service fit.country same in
    overlapping s c first last r (sym letters.0) (sym letters.1) (omega (arith, high, same))
    (omega (arith, low, same)) order

pub proper_keys : (rs : List Range) → AreSound rs → (k : ℕ) (d : Range) → k < length rs
    → key_by First (get_or rs k d) ≤ key_by Last (get_or rs k d)
unfolding serial_key
proper_keys rs sound k d lt = let at = sound k d lt in omega (arith, at.proper)

pub rising_last : (rs : List Range) (order : List ℕ) → AreSound rs
    → IsOrder (key_by First) (key_by Last) rs order → IsRising (key_by Last) rs order
rising_last rs order sound o = rising_high (key_by First) (key_by Last) rs order o
    (proper_keys rs sound)

pub rising_first : (rs : List Range) (order : List ℕ) → AreSound rs
    → IsOrder (key_by First) (key_by Last) rs order → IsRising (key_by First) rs order
rising_first rs order sound o = rising_low (key_by First) (key_by Last) rs order o
    (proper_keys rs sound)

-- After the position of a new range each range begins after its end.
pub placed_apart : (rs : List Range) (order : List ℕ) (r : Range) (at key : ℕ) → AreSound rs
    → IsOrder (key_by First) (key_by Last) rs order → IsFitting r → r.first ≤ r.last
    → find (overlaps r.service r.country r.first r.last) rs ≡ None → key ≡ key_by First r
    → ((j : ℕ) (d : Range) → at ≤ j → j < length order → key ≤ key_by Last (range_at rs order j d))
    → (j : ℕ) (d : Range) → at ≤ j → j < length order
    → key_by Last r < key_by First (range_at rs order j d)
placed_apart rs order r at key sound placed fit proper apart key_is above j d le lt =
    let up = above j d le lt in
    let place = placed.places j lt in
    let one = sound (get_or order j 0) d place in
    let old = range_at rs order j d in
    let miss : overlaps r.service r.country r.first r.last old ≡ false =
    none_found (overlaps r.service r.country r.first r.last) rs apart (get_or order j 0) d
    place in
    elim (cases_lt (key_by Last r) (key_by First old)) [
      | inl less ↦ less
      | inr ge ↦ absurd (both_ways (overlaps r.service r.country r.first r.last old) miss
          (over_from r.service r.country r.first r.last old fit.service fit.country fit.first
          fit.last proper one.fitting (omega (arith, up, key_is)) ge))
    ]

-- What is known of the order before, in and after the ranges that overlap (the run).
pub record IsRun (rs : List Range) (order : List ℕ) (s c : ℕ × ℕ) (first last start end low high :
    ℕ) : Type 0 where
  pub sound : AreSound rs
  pub placed : IsOrder (key_by First) (key_by Last) rs order
  pub service : AreCapitals s
  pub country : AreCapitals c
  pub from : IsSerial first
  pub to : IsSerial last
  pub ordered : first ≤ last
  pub low_is : low ≡ serial_key s c first
  pub high_is : high ≡ serial_key s c last
  pub within : end ≤ length order
  pub before : (j : ℕ) (d : Range) → j < start → key_by Last (range_at rs order j d) < low
  pub since : (j : ℕ) (d : Range) → start ≤ j → j < length order
      → low ≤ key_by Last (range_at rs order j d)
  pub until : (j : ℕ) (d : Range) → j < end → key_by First (range_at rs order j d) < high + 1
  pub behind : (j : ℕ) (d : Range) → end ≤ j → j < length order
      → high + 1 ≤ key_by First (range_at rs order j d)

-- The ranges in the run overlap the span.
pub in_run : (rs : List Range) (order : List ℕ) (s c : ℕ × ℕ) (first last start end low high : ℕ)
    → IsRun rs order s c first last start end low high
    → (j : ℕ) (d : Range) → start ≤ j → j < end → overlaps s c first last (range_at rs order j d)
    ≡ true
in_run rs order s c first last start end low high run j d le lt =
    let inside : j < length order = omega (arith, run.within) in
    let one = run.sound (get_or order j 0) d (run.placed.places j inside) in
    let since = run.since j d le inside in
    let until = run.until j d lt in
    over_from s c first last (range_at rs order j d) run.service run.country run.from run.to
    run.ordered one.fitting (omega (arith, since, run.low_is))
    (omega (arith, until, run.high_is))

-- Only the ranges in the run overlap the span.
pub of_run : (rs : List Range) (order : List ℕ) (s c : ℕ × ℕ) (first last start end low high : ℕ)
    → IsRun rs order s c first last start end low high
    → (j : ℕ) (d : Range) → j < length order → overlaps s c first last (range_at rs order j d)
    ≡ true → (start ≤ j) × (j < end)
of_run rs order s c first last start end low high run j d inside hit =
    let keys = over_keys s c first last (range_at rs order j d) hit in
    let from : start ≤ j = elim (cases_lt j start) [
      | inl lt ↦ let before = run.before j d lt in
          absurd (omega (arith, before, run.low_is, keys.0))
      | inr ge ↦ ge
    ] in
    let to : j < end = elim (cases_lt j end) [
      | inl lt ↦ lt
      | inr ge ↦ let behind = run.behind j d ge inside in
          absurd (omega (arith, behind, run.high_is, keys.1))
    ] in
    (from, to)

-- None is found if the run is empty.
pub run_none : (rs : List Range) (order : List ℕ) (s c : ℕ × ℕ) (first last start end low high : ℕ)
    → IsRun rs order s c first last start end low high → end ≤ start
    → find (overlaps s c first last) rs ≡ None
run_none rs order s c first last start end low high run empty =
    none_in_order (key_by First) (key_by Last) rs order run.placed (overlaps s c first last)
    (λ j d lt. false_from_ne_true (overlaps s c first last (range_at rs order j d))
    (λ hit. let in' = of_run rs order s c first last start end low high run j d lt hit in
    omega (arith, in'.0, in'.1, empty)))

-- The range with the least index in the run is found.
pub run_found : (rs : List Range) (order : List ℕ) (s c : ℕ × ℕ) (first last start end low high m :
    ℕ) (r : Range) → IsRun rs order s c first last start end low high
    → IsLeastIn order start end (Some m) → get_or rs m r ≡ r → find (overlaps s c first last) rs
    ≡ Some r
run_found rs order s c first last start end low high m r run least is =
    let j = least.1.0 in
    let at : get_or order j 0 ≡ m = least.1.3 in
    let inside : j < length order = omega (arith, least.1.2, run.within) in
    let here : get_or rs (get_or order j 0) r ≡ r = ap (λ i. get_or rs i r) at ∙ is in
    first_in_order (key_by First) (key_by Last) rs order run.placed (overlaps s c first last) j r
    inside here
    (ap (overlaps s c first last) (sym here) ∙ in_run rs order s c first last start end low high run
    j r least.1.1 least.1.2)
    (λ k d lt hit. let in' = of_run rs order s c first last start end low high run k d lt hit in
    let le = least.0 k in'.0 in'.1 in omega (arith, le, at))

-- The least index in the run is that of a range.
pub run_place : (rs : List Range) (order : List ℕ) (start end m : ℕ)
    → IsOrder (key_by First) (key_by Last) rs order → end ≤ length order
    → IsLeastIn order start end (Some m) → m < length rs
run_place rs order start end m placed within least =
    let j = least.1.0 in
    let place = placed.places j (omega (arith, least.1.2, within)) in
    omega (arith, place, least.1.3)

over_order : (s c : ℕ × ℕ) (first last : ℕ) (r : Range) → overlaps s c first last r ≡ true
    → first ≤ last
over_order s c first last r hit = let both = and_parts _ _ hit in leb-true first last both.1

-- No range overlaps an empty span.
pub empty_none : (rs : List Range) (s c : ℕ × ℕ) (first last : ℕ) → last < first
    → find (overlaps s c first last) rs ≡ None
empty_none rs s c first last lt =
    find_none (overlaps s c first last) rs
    (λ i d h. false_from_ne_true (overlaps s c first last (get_or rs i d))
    (λ hit. let over = over_order s c first last (get_or rs i d) hit in omega (arith, over, lt)))
