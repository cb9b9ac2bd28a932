-- Defines what is true of every range that is held.
use Rattle.std.specs.Prelude.{◌≡◌, ℕ, ◌+◌, ◌<◌, ◌≤◌, List, length, slice_index_or}
use Rattle.s10_history.specs.declared.range.Range.{Range}
use Rattle.s10_ranges.specs.Keys.{IsFitting}

-- A range is sound at index k if its number is k + 1, its number fits in 32 bits, it is fitting,
-- and it is not empty.
pub record IsSound (k : ℕ) (r : Range) : Type 0 where
  pub fitting : IsFitting r
  pub num : r.num ≡ k + 1
  pub small : r.num < 4294967296
  pub proper : r.first ≤ r.last

-- Every range of the list is sound at its index.
abbrev pub AreSound : List Range → Type 0
AreSound rs = (k : ℕ) (d : Range) → k < length rs → IsSound k (slice_index_or rs k d)
