-- Sorted orders of ranges, given by their indices.
use Rattle.std.proofs.Common.{◌≡◌, ℕ, zero, suc, ◌+◌, ◌<◌, ◌≤◌, ◌⊎◌, inl, inr, List, [], ◌∷◌}
use Rattle.std.proofs.Common.{length, get_or, ap, arith}
use Rattle.std.proofs.lemmas.Bool.{cases_lt}
use Rattle.s10_history.specs.declared.range.Range.{Range}
use Rattle.s10_ranges.specs.Order.{range_at, IsRising, IsOrder}

-- An element at an index of the list does not depend on the default.
pub at_place : (rs : List Range) (k : ℕ) (d r : Range) → k < length rs → get_or rs k r ≡ r
    → get_or rs k d ≡ r
at_place [] k d r lt is = absurd (omega arith)
at_place (x ∷ xs) zero d r lt is = is
at_place (x ∷ xs) (suc k) d r lt is = at_place xs k d r (omega arith) is

-- Two numbers are equal, or one of them is below the other.
pub compare : (i j : ℕ) → (i < j) ⊎ ((i ≡ j) ⊎ (j < i))
compare i j = elim (cases_lt i j) [
  | inl lt ↦ inl lt
  | inr ge ↦ elim (cases_lt j i) [
    | inl gt ↦ inr (inr gt)
    | inr le ↦ inr (inl (omega (arith, ge, le)))
  ]
]

-- If the key at a position is below a key, so are all up to it.
pub up_to : (key : Range → ℕ) (rs : List Range) (order : List ℕ) (mid bound : ℕ) (r : Range)
    → mid < length order → get_or order mid 0 < length rs → IsRising key rs order
    → get_or rs (get_or order mid 0) r ≡ r → key r < bound → (j : ℕ) (d : Range) → j < mid + 1
    → key (range_at rs order j d) < bound
up_to key rs order mid bound r inside place rising is here j d lt =
    let same : range_at rs order mid d ≡ r = at_place rs (get_or order mid 0) d r place is in
    let there : key (range_at rs order mid d) ≡ key r = ap key same in
    elim (cases_lt j mid) [
      | inl before ↦ let less = rising j mid d before inside in omega (arith, less, there, here)
      | inr ge ↦ let e : j ≡ mid = omega arith in let eq : key (range_at rs order j d)
          ≡ key (range_at rs order mid d) = ap (λ i. key (range_at rs order i d)) e in
          omega (arith, eq, there, here)
    ]

-- If the key at a position is not below a key, none from it on is.
pub from_on : (key : Range → ℕ) (rs : List Range) (order : List ℕ) (mid bound : ℕ) (r : Range)
    → get_or order mid 0 < length rs → IsRising key rs order
    → get_or rs (get_or order mid 0) r ≡ r → bound ≤ key r → (j : ℕ) (d : Range) → mid ≤ j
    → j < length order → bound ≤ key (range_at rs order j d)
from_on key rs order mid bound r place rising is here j d le lt =
    let same : range_at rs order mid d ≡ r = at_place rs (get_or order mid 0) d r place is in
    let there : key (range_at rs order mid d) ≡ key r = ap key same in
    elim (cases_lt mid j) [
      | inl after ↦ let less = rising mid j d after lt in omega (arith, less, there, here)
      | inr ge ↦ let e : j ≡ mid = omega arith in let eq : key (range_at rs order j d)
          ≡ key (range_at rs order mid d) = ap (λ i. key (range_at rs order i d)) e in
          omega (arith, eq, there, here)
    ]

-- If no range ends before it begins, the begins of an order rise.
pub rising_low : (low high : Range → ℕ) (rs : List Range) (order : List ℕ)
    → IsOrder low high rs order → ((k : ℕ) (d : Range) → k < length rs → low (get_or rs k d)
    ≤ high (get_or rs k d)) → IsRising low rs order
rising_low low high rs order o proper i j d lt in' =
    let before = o.apart i j d lt in' in
    let here = proper (get_or order i 0) d (o.places i (omega arith)) in
    omega (arith, before, here)

pub rising_high : (low high : Range → ℕ) (rs : List Range) (order : List ℕ)
    → IsOrder low high rs order → ((k : ℕ) (d : Range) → k < length rs → low (get_or rs k d)
    ≤ high (get_or rs k d)) → IsRising high rs order
rising_high low high rs order o proper i j d lt in' =
    let before = o.apart i j d lt in' in
    let there = proper (get_or order j 0) d (o.places j in') in
    omega (arith, before, there)
