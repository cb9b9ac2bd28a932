-- Binary search in lists of blocks.
use Rattle.std.proofs.Common.{◌≡◌, ◌∙◌, ℕ, ◌+◌, ◌-◌, ◌<◌, ◌≤◌, List, [], length, get_or, sym, ap}
use Rattle.std.proofs.Common.{arith, inl, inr}
use Rattle.std.specs.List.{concat}
use Rattle.std.proofs.lemmas.Bool.{cases_lt}
use Rattle.s10_history.specs.declared.range.Range.{Range}
use Rattle.s10_ranges.specs.Blocks.{start_of, AreBlocks, IsCursor}
use Rattle.s10_ranges.specs.Order.{range_at, AreIndices, IsRising}
use Rattle.s10_ranges.proofs.Blocks.{start_next, before_end, index_at}
use Rattle.s10_ranges.proofs.Orders.{up_to, from_on}

-- What is known of a block of an order.
pub record IsPart (key : Range → ℕ) (rs : List Range) (bs : List (List ℕ)) (k : ℕ)
    (block : List ℕ) : Type 0 where
  pub blocks : AreBlocks bs
  pub places : AreIndices rs (concat bs)
  pub rising : IsRising key rs (concat bs)
  pub there : k < length bs
  pub is : block ≡ get_or bs k []

-- The index at an offset of the block.
part_at : (key : Range → ℕ) (rs : List Range) (bs : List (List ℕ)) (k : ℕ) (block : List ℕ)
    → IsPart key rs bs k block → (o : ℕ) → o < length block
    → (start_of bs k + o < length (concat bs))
    × (get_or (concat bs) (start_of bs k + o) 0 ≡ get_or block o 0)
part_at key rs bs k block part o lt =
    let inside : o < length (get_or bs k []) = omega (arith, lt, ap length part.is) in (
      before_end bs k o part.there inside,
      index_at bs k o inside ∙ ap (λ xs. get_or xs o 0) (sym part.is),
    )

-- The block is an order too.
pub part_places : (key : Range → ℕ) (rs : List Range) (bs : List (List ℕ)) (k : ℕ)
    (block : List ℕ) → IsPart key rs bs k block → AreIndices rs block
part_places key rs bs k block part j lt =
    let at = part_at key rs bs k block part j lt in
    let fact = part.places (start_of bs k + j) at.0 in
    omega (arith, fact, at.1)

part_range : (key : Range → ℕ) (rs : List Range) (bs : List (List ℕ)) (k : ℕ) (block : List ℕ)
    → IsPart key rs bs k block → (o j : ℕ) (d : Range) → start_of bs k + o ≡ j → o < length block
    → key (range_at rs (concat bs) j d) ≡ key (range_at rs block o d)
part_range key rs bs k block part o j d is lt =
    let at = part_at key rs bs k block part o lt in
    ap (λ i. key (range_at rs (concat bs) i d)) (sym is) ∙ ap (λ i. key (get_or rs i d)) at.1

pub part_rising : (key : Range → ℕ) (rs : List Range) (bs : List (List ℕ)) (k : ℕ)
    (block : List ℕ) → IsPart key rs bs k block → IsRising key rs block
part_rising key rs bs k block part i j d lt in' =
    let at = part_at key rs bs k block part j in' in
    let fact = part.rising (start_of bs k + i) (start_of bs k + j) d (omega arith) at.0 in
    let a = part_range key rs bs k block part i (start_of bs k + i) d
    (let e : start_of bs k + i ≡ start_of bs k + i = omega arith in e) (omega arith) in
    let b = part_range key rs bs k block part j (start_of bs k + j) d
    (let e : start_of bs k + j ≡ start_of bs k + j = omega arith in e) in' in
    omega (arith, fact, a, b)

-- The position of the last index of the block.
pub last_at : (key : Range → ℕ) (rs : List Range) (bs : List (List ℕ)) (k : ℕ) (block : List ℕ)
    → IsPart key rs bs k block → (0 < length block)
    × (start_of bs k + (length block - 1) + 1 ≡ start_of bs (k + 1))
last_at key rs bs k block part =
    let filled : 0 < length block =
    omega (arith, part.blocks.filled k part.there, ap length part.is) in
    (filled, omega (arith, filled, start_next bs k part.there, ap length part.is))

-- If the key of the last range of the block is below a key, so are all up to it.
pub part_up_to : (key : Range → ℕ) (rs : List Range) (bs : List (List ℕ)) (k : ℕ)
    (block : List ℕ) (bound : ℕ) (r : Range) → IsPart key rs bs k block
    → get_or rs (get_or block (length block - 1) 0) r ≡ r → key r < bound → (j : ℕ) (d : Range)
    → j < start_of bs (k + 1) → key (range_at rs (concat bs) j d) < bound
part_up_to key rs bs k block bound r part is here j d lt =
    let last = last_at key rs bs k block part in
    let p : ℕ = start_of bs k + (length block - 1) in
    let at = part_at key rs bs k block part (length block - 1) (omega (arith, last.0)) in
    up_to key rs (concat bs) p bound r at.0 (part.places p at.0) part.rising
    (ap (λ i. get_or rs i r) at.1 ∙ is) here j d (omega (arith, lt, last.1))

-- If it is not below a key, none from it on is.
pub part_from_on : (key : Range → ℕ) (rs : List Range) (bs : List (List ℕ)) (k : ℕ)
    (block : List ℕ) (bound : ℕ) (r : Range) → IsPart key rs bs k block
    → get_or rs (get_or block (length block - 1) 0) r ≡ r → bound ≤ key r → (j : ℕ) (d : Range)
    → start_of bs (k + 1) ≤ j + 1 → j < length (concat bs)
    → bound ≤ key (range_at rs (concat bs) j d)
part_from_on key rs bs k block bound r part is here j d le lt =
    let last = last_at key rs bs k block part in
    let p : ℕ = start_of bs k + (length block - 1) in
    let at = part_at key rs bs k block part (length block - 1) (omega (arith, last.0)) in
    from_on key rs (concat bs) p bound r (part.places p at.0) part.rising
    (ap (λ i. get_or rs i r) at.1 ∙ is) here j d (omega (arith, le, last.1)) lt

-- What two searches say of a key: one for the block, one in it.
pub record IsFound (key : Range → ℕ) (rs : List Range) (bs : List (List ℕ)) (k o bound : ℕ)
    (block : List ℕ) : Type 0 where
  pub part : IsPart key rs bs k block
  pub before : (j : ℕ) (d : Range) → j < start_of bs k → key (range_at rs (concat bs) j d) < bound
  pub since : (j : ℕ) (d : Range) → start_of bs (k + 1) ≤ j + 1 → j < length (concat bs)
      → bound ≤ key (range_at rs (concat bs) j d)
  pub below : (j : ℕ) (d : Range) → j < o → key (range_at rs block j d) < bound
  pub above : (j : ℕ) (d : Range) → o ≤ j → j < length block → bound ≤ key (range_at rs block j d)

-- The offset is that of an index of the block.
pub found_inside : (key : Range → ℕ) (rs : List Range) (bs : List (List ℕ)) (k o bound : ℕ)
    (block : List ℕ) (d : Range) → IsFound key rs bs k o bound block → o < length block
found_inside key rs bs k o bound block d found =
    let last = last_at key rs bs k block found.part in
    let n : ℕ = length block - 1 in
    let at = part_at key rs bs k block found.part n (omega (arith, last.0)) in
    elim (cases_lt o (length block)) [
      | inl lt ↦ lt
      | inr ge ↦
          let low = found.below n d (omega (arith, ge, last.0)) in
          let high = found.since (start_of bs k + n) d (omega (arith, last.1)) at.0 in
          let same = part_range key rs bs k block found.part n (start_of bs k + n) d
          (let e : start_of bs k + n ≡ start_of bs k + n = omega arith in e)
          (omega (arith, last.0)) in
          absurd (omega (arith, low, high, same))
    ]

-- Any range, as a default.
no_range : Range
no_range = record { num = 0; holder = 0; service = (0, 0); country = (0, 0); first = 0; last = 0 }

-- The position found is a cursor.
pub found_cursor : (key : Range → ℕ) (rs : List Range) (bs : List (List ℕ)) (k o bound : ℕ)
    (block : List ℕ) → IsFound key rs bs k o bound block
    → IsCursor bs (record { block = k; offset = o })
found_cursor key rs bs k o bound block found =
    let inside = found_inside key rs bs k o bound block no_range found in
    record {
      within = omega (arith, found.part.there);
      inside = λ _. omega (arith, inside, ap length found.part.is);
      end = λ e. absurd (omega (arith, e, found.part.there));
    }

-- The keys before the position are below the key.
pub found_below : (key : Range → ℕ) (rs : List Range) (bs : List (List ℕ)) (k o bound : ℕ)
    (block : List ℕ) → IsFound key rs bs k o bound block → (j : ℕ) (d : Range)
    → j < start_of bs k + o → key (range_at rs (concat bs) j d) < bound
found_below key rs bs k o bound block found j d lt =
    elim (cases_lt j (start_of bs k)) [
      | inl before ↦ found.before j d before
      | inr ge ↦
          let i : ℕ = j - start_of bs k in
          let inside = found_inside key rs bs k o bound block d found in
          let low = found.below i d (omega arith) in
          let same = part_range key rs bs k block found.part i j d
          (let e : start_of bs k + i ≡ j = omega arith in e) (omega (arith, inside)) in
          omega (arith, low, same)
    ]

-- No key from the position on is below the key.
pub found_above : (key : Range → ℕ) (rs : List Range) (bs : List (List ℕ)) (k o bound : ℕ)
    (block : List ℕ) → IsFound key rs bs k o bound block → (j : ℕ) (d : Range)
    → start_of bs k + o ≤ j → j < length (concat bs) → bound ≤ key (range_at rs (concat bs) j d)
found_above key rs bs k o bound block found j d le lt =
    elim (cases_lt (j + 1) (start_of bs (k + 1))) [
      | inl here ↦
          let i : ℕ = j - start_of bs k in
          let last = last_at key rs bs k block found.part in
          let inside : i < length block = omega (arith, here, last.0, last.1) in
          let high = found.above i d (omega arith) inside in
          let same = part_range key rs bs k block found.part i j d
          (let e : start_of bs k + i ≡ j = omega arith in e) inside in
          omega (arith, high, same)
      | inr ge ↦ found.since j d ge lt
    ]
