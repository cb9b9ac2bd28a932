-- Defines the value of a list in blocks.
use Rattle.std.specs.Prelude.{◌≡◌, ℕ, ◌-◌, ◌≤◌, List, [], ◌∷◌, ◌++◌, length, min, Vec, vec_capacity}
use Rattle.std.specs.Global.{Global}

-- The items in their order, and for how many more memory is reserved.
pub record BlockList (T : Type 0) : Type 0 where
  pub items : List T
  pub room : ℕ

-- The items of the blocks, one block after another.
abbrev pub items_in : {T : Type 0} → List (Vec T Global) → List T
items_in [] = []
items_in (block ∷ blocks) = block.items ++ items_in blocks

-- The blocks hold n items: each block is full until the items end, and has memory for 1,024.
abbrev pub AreFilled : {T : Type 0} → List (Vec T Global) → ℕ → Type 0
AreFilled [] n = n ≡ 0
AreFilled (block ∷ blocks) n = (length block.items ≡ min n 1024) × (1024 ≤ vec_capacity block)
    × AreFilled blocks (n - 1024)

-- The blocks hold n items, and are at most 2^32.
pub record AreBlocks {T : Type 0} (blocks : List (Vec T Global)) (n : ℕ) : Type 0 where
  pub filled : AreFilled blocks n
  pub few : length blocks ≤ 4294967296
