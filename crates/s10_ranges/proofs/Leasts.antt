-- The least of a part of an order.
use Rattle.std.proofs.Common.{◌≡◌, ◌∙◌, ℕ, ◌+◌, ◌-◌, ◌<◌, ◌≤◌, List, length, Option, Some, None, min}
use Rattle.std.proofs.Common.{get_or, sym, ap, arith, inl, inr}
use Rattle.std.specs.Prelude.{MatchOption, slice_range, slice_index, insert}
use Rattle.std.proofs.Math.Nat.{min-le_left, min-le_right}
use Rattle.std.proofs.lemmas.Bool.{cases_lt}
use Rattle.std.proofs.lemmas.List.Edits.{get_or-between, length-insert}
use Rattle.std.proofs.lemmas.List.Edits.{get_or-insert_below, get_or-insert_at, get_or-insert_above}
use Rattle.s10_ranges.specs.Order.{IsLeastIn, lesser_of}
use Rattle.s10_ranges.proofs.Pushing.{entry}

pub least_part : (order : List ℕ) (start end : ℕ) (part : List ℕ) (result : Option ℕ)
    → (start ≤ end) × (end ≤ length order) × (part ≡ slice_range order start end)
    × (length part + start ≡ end)
    → MatchOption result (length part ≡ 0) (λ m. ((k : ℕ) → k < length part
    → m ≤ slice_index part k) × ((k : ℕ) × (k < length part) × (slice_index part k ≡ m)))
    → IsLeastIn order start end result
least_part order start end part None is least = omega (arith, least, is.3)
least_part order start end part (Some m) is least =
    let place : (k : ℕ) → start + k < end → get_or part k 0 ≡ get_or order (start + k) 0 =
    λ k lt. ap (λ l. get_or l k 0) is.2 ∙ get_or-between order start end k 0 lt in (
      λ j from to.
          let k : ℕ = j - start in
          let there : start + k ≡ j = omega arith in
          let same : get_or part k 0 ≡ get_or order j 0 = place k (omega arith)
          ∙ ap (λ i. get_or order i 0) there in
          let le = least.0 k (omega (arith, is.3)) in
          omega (arith, le, same),
      (
        start + least.1.0,
        omega arith,
        omega (arith, least.1.1, is.3),
        sym (place least.1.0 (omega (arith, least.1.1, is.3))) ∙ least.1.2,
      ),
    )

-- The lesser of the least of two parts is the least of both together.
pub least_joined : (order : List ℕ) (start mid end : ℕ) (l m : Option ℕ) → start ≤ mid → mid ≤ end
    → IsLeastIn order start mid l → IsLeastIn order mid end m
    → IsLeastIn order start end (lesser_of l m)
least_joined order start mid end None None le le' one other = omega arith
least_joined order start mid end None (Some n) le le' one other = (
  λ j from to. other.0 j (omega arith) to,
  (other.1.0, omega (arith, other.1.1), other.1.2, other.1.3),
)
least_joined order start mid end (Some m) None le le' one other = (
  λ j from to. one.0 j from (omega arith),
  (one.1.0, one.1.1, omega (arith, one.1.2), one.1.3),
)
least_joined order start mid end (Some m) (Some n) le le' one other = (
  λ j from to. elim (cases_lt j mid) [
    | inl lt ↦ let fact = one.0 j from lt in omega (arith, fact, min-le_left m n)
    | inr ge ↦ let fact = other.0 j ge to in omega (arith, fact, min-le_right m n)
  ],
  elim (cases_lt m n) [
    | inl lt ↦ (one.1.0, one.1.1, omega (arith, one.1.2), omega (arith, one.1.3))
    | inr ge ↦ (other.1.0, omega (arith, other.1.1), other.1.2, omega (arith, other.1.3))
  ],
)

-- The least of a part of a list is the least of the same indices in another one.
pub least_moved : (order part : List ℕ) (by start end : ℕ) (l : Option ℕ)
    → ((k : ℕ) → k < end → get_or order (by + k) 0 ≡ get_or part k 0)
    → IsLeastIn part start end l → IsLeastIn order (by + start) (by + end) l
least_moved order part by start end None same least = omega (arith, least)
least_moved order part by start end (Some m) same least = (
  λ j from to.
      let k : ℕ = j - by in
      let there : by + k ≡ j = omega arith in
      let here : get_or order j 0 ≡ get_or part k 0 = ap (λ i. get_or order i 0) (sym there)
      ∙ same k (omega arith) in
      let le = least.0 k (omega arith) (omega arith) in
      omega (arith, le, here),
  (
    by + least.1.0,
    omega (arith, least.1.1),
    omega (arith, least.1.2),
    same least.1.0 least.1.2 ∙ least.1.3,
  ),
)

-- The least of a list with one more index.
pub least_grown : (xs ys : List ℕ) (at n : ℕ) (l : Option ℕ) → at ≤ length xs → ys ≡ insert xs at n
    → IsLeastIn xs 0 (length xs) l → IsLeastIn ys 0 (length ys) (lesser_of l (Some n))
least_grown xs ys at n l le is least = rw is (grown l least)
  where
    long : length (insert xs at n) ≡ length xs + 1
    long = length-insert xs at n le

    grown : (o : Option ℕ) → IsLeastIn xs 0 (length xs) o
        → IsLeastIn (insert xs at n) 0 (length (insert xs at n)) (lesser_of o (Some n))
    grown None none = (
      λ j from to. elim (entry xs at n j le) [
        | inl a ↦ absurd (omega (arith, a.0, none, le))
        | inr u ↦ elim u [
          | inl a ↦ omega (arith, a.1)
          | inr a ↦ absurd (omega (arith, a.1, a.2, none, long, to))
        ]
      ],
      (at, omega arith, omega (arith, long, le), get_or-insert_at xs at n 0 le),
    )
    grown (Some m) some = (
      λ j from to. elim (entry xs at n j le) [
        | inl a ↦ let fact = some.0 j (omega arith) (omega (arith, a.0, le)) in
            omega (arith, fact, a.1, min-le_left m n)
        | inr u ↦ elim u [
          | inl a ↦ omega (arith, a.1, min-le_right m n)
          | inr a ↦ let fact = some.0 a.0 (omega arith) (omega (arith, a.1, long, to)) in
              omega (arith, fact, a.3, min-le_left m n)
        ]
      ],
      elim (cases_lt m n) [
        | inl lt ↦ elim (cases_lt some.1.0 at) [
          | inl before ↦ (
            some.1.0,
            omega arith,
            omega (arith, long, some.1.2),
            get_or-insert_below xs at n 0 some.1.0 before le ∙ some.1.3
                ∙ (let e : m ≡ min m n = omega arith in e),
          )
          | inr after ↦ (
            some.1.0 + 1,
            omega arith,
            omega (arith, long, some.1.2),
            get_or-insert_above xs at n 0 some.1.0 after le ∙ some.1.3
                ∙ (let e : m ≡ min m n = omega arith in e),
          )
        ]
        | inr ge ↦ (
          at,
          omega arith,
          omega (arith, long, le),
          get_or-insert_at xs at n 0 le ∙ (let e : n ≡ min m n = omega arith in e),
        )
      ],
    )
