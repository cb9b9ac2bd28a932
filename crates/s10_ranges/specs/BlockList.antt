-- Defines the indices of a list of blocks, and when it has memory for one more.
use Rattle.std.specs.Prelude.{ℕ, ◌<◌, List, IsSome, vec_len, vec_capacity}
use Rattle.std.specs.List.{concat}
use Rattle.s10_ranges.specs.declared.block_list.BlockList.{BlockList}

-- The indices of the blocks, one after another.
abbrev pub indices_of : BlockList → List ℕ
indices_of list = concat list.blocks.items

-- Memory is reserved for one more index: a block, and room for it in the list.
pub record HasRoomForIndex (list : BlockList) : Type 0 where
  pub blocks : vec_len list.blocks < vec_capacity list.blocks
  pub spare : IsSome list.spare
