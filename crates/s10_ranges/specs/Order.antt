-- Defines sorted orders of ranges, given by their indices.
use Rattle.std.specs.Prelude.{◌≡◌, ℕ, ◌<◌, ◌≤◌, List, length, min, Option, Some, None}
use Rattle.std.specs.Prelude.{slice_index, slice_index_or}
use Rattle.s10_history.specs.declared.range.Range.{Range}

-- The range whose index is at position j of the order, or the default if there is none.
abbrev pub range_at : List Range → List ℕ → ℕ → Range → Range
range_at rs order j d = slice_index_or rs (slice_index order j) d

-- Each element of the order is the index of a range.
abbrev pub AreIndices : List Range → List ℕ → Type 0
AreIndices rs order = (j : ℕ) → j < length order → slice_index order j < length rs

-- The keys rise strictly along the order.
abbrev pub IsRising : (Range → ℕ) → List Range → List ℕ → Type 0
IsRising key rs order = (i j : ℕ) (d : Range) → i < j → j < length order
    → key (range_at rs order i d) < key (range_at rs order j d)

-- An order has each index of a range once, and each range ends (high) before the next one begins
-- (low).
pub record IsOrder (low high : Range → ℕ) (rs : List Range) (order : List ℕ) : Type 0 where
  pub size : length order ≡ length rs
  pub places : AreIndices rs order
  pub apart : (i j : ℕ) (d : Range) → i < j → j < length order → high (range_at rs order i d)
      < low (range_at rs order j d)
  pub all : (k : ℕ) → k < length rs → ((j : ℕ) → j < length order → slice_index order j ≡ k → ⊥) → ⊥

-- The least index from position start up to, but without, end: none if that part is empty.
abbrev pub IsLeastIn : List ℕ → ℕ → ℕ → Option ℕ → Type 0
IsLeastIn order start end None = end ≤ start
IsLeastIn order start end (Some m) =
    ((j : ℕ) → start ≤ j → j < end → m ≤ slice_index order j) × ((j : ℕ) × (start ≤ j) × (j < end)
    × (slice_index order j ≡ m))

-- The lesser of two indices, or the one that there is.
abbrev pub lesser_of : Option ℕ → Option ℕ → Option ℕ
lesser_of None other = other
lesser_of (Some m) None = Some m
lesser_of (Some m) (Some n) = Some (min m n)
