use Rattle.std.proofs.Common.{◌∙◌, length, sym, ap}
use Rattle.s10_index.specs.Blocks.{BlockList}
use Rattle.s10_index.proofs.BlockLists.{items_count}
use Rattle.s10_index.proofs.blocks.Blocks.len.Goals as goal

pub returns : goal.returns
returns g c =
    sym (items_count c.self.inside.blocks.items c.self.inside.count c.self.invariant.filled)
    ∙ ap (λ (v : BlockList _). length v.items) c.self.view_is
