-- Defines lists in blocks, and positions in them.
use Rattle.std.specs.Prelude.{◌≡◌, ℕ, ◌+◌, ◌<◌, ◌≤◌, List, [], length, take, drop, set, insert}
use Rattle.std.specs.Prelude.{slice_index_or}
use Rattle.std.specs.List.{concat}
use Rattle.s10_ranges.specs.declared.block.TheConstants.{BLOCK_SIZE, HALF}
use Rattle.s10_ranges.specs.declared.cursor.Cursor.{Cursor}

-- The position of the first index of block k.
unfoldable pub start_of : List (List ℕ) → ℕ → ℕ
start_of blocks k = length (concat (take k blocks))

-- The position of a cursor in the list of all indices.
abbrev pub position_of : List (List ℕ) → Cursor → ℕ
position_of blocks cursor = start_of blocks cursor.block + cursor.offset

-- A cursor is at an index of a block, or at the end.
pub record IsCursor (blocks : List (List ℕ)) (cursor : Cursor) : Type 0 where
  pub within : cursor.block ≤ length blocks
  pub inside : cursor.block < length blocks
      → cursor.offset < length (slice_index_or blocks cursor.block [])
  pub end : cursor.block ≡ length blocks → cursor.offset ≡ 0

-- Each block has an index, and at most BLOCK_SIZE.
pub record AreBlocks (blocks : List (List ℕ)) : Type 0 where
  pub filled : (k : ℕ) → k < length blocks → 0 < length (slice_index_or blocks k [])
  pub small : (k : ℕ) → k < length blocks → length (slice_index_or blocks k []) ≤ BLOCK_SIZE

-- The blocks with block k split into two halves.
unfoldable pub halved : List (List ℕ) → ℕ → List (List ℕ)
halved blocks k = let block = slice_index_or blocks k [] in
    insert (set blocks k (take HALF block)) (k + 1) (drop HALF block)
