use Rattle.std.proofs.Common.{arith}
use Rattle.s10_index.proofs.BlockLists.{items_fit}
use Rattle.s10_index.proofs.blocks.Blocks.room.Goals as goal

pub overflow_sub-result : goal.overflow_sub-result
overflow_sub-result g c =
    let all = c.self.inside in
    omega (
      arith,
      items_fit all.blocks.items all.count c.self.invariant.filled,
      c.len.ensures,
      all.blocks.ok.0,
    )
