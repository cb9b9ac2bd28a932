use Rattle.std.proofs.Common.{◌+◌, ◌<◌, [], length, arith}
use Rattle.std.specs.List.{concat}
use Rattle.std.proofs.lemmas.List.{get_or_read}
use Rattle.s10_ranges.specs.Blocks.{start_of}
use Rattle.s10_ranges.proofs.Leasts.{least_joined}
use Rattle.s10_ranges.proofs.Blocks.{start_ordered}
use Rattle.s10_ranges.proofs.BlockLeasts.{least_of_block}
use Rattle.s10_ranges.proofs.block_list.BlockList.least_of_blocks.Goals as goal

pub loop-block-preserved : goal.loop-block-preserved
loop-block-preserved c =
    let bs = c.args.self.now.blocks.items in
    let k = c.loop-block.block in
    let lt : k < length bs = omega (arith, c.loop-block-test.true, c.requires.within) in
    let block = get_or_read bs k c.index.result.now lt c.index.ensures [] in
    rw c.lesser-least.ensures
    (least_joined (concat bs) (start_of bs c.args.start) (start_of bs k) (start_of bs (k + 1))
    c.loop-block.least c.least.result
    (start_ordered bs c.args.start k (omega (arith, c.loop-block.auto.block)))
    (start_ordered bs k (k + 1) (omega arith)) c.loop-block.invariant
    (least_of_block bs k c.index.result.now c.least.result lt block c.least.ensures))
