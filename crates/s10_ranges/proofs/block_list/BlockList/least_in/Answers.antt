use Rattle.std.proofs.Common.{◌∙◌, ◌<◌, [], ap, arith, length}
use Rattle.std.proofs.lemmas.List.{get_or_read}
use Rattle.s10_ranges.proofs.BlockLeasts.{least_of_three, earlier_block}
use Rattle.s10_ranges.proofs.block_list.BlockList.least_in.Goals as goal

pub returns-then-end-start : goal.returns-then-end-start
returns-then-end-start c = earlier_block c.args.self.now.blocks.items c.args.start c.args.end
    c.requires.start c.requires.end c.if-end-start.true

pub returns : goal.returns
returns c =
    let bs = c.args.self.now.blocks.items in
    let start = c.args.start in
    let end = c.args.end in
    let before : start.block < end.block = omega (arith, c.if-end-start.false, c.if-start-end.false) in
    let inside : start.block < length bs = omega (arith, before, c.requires.end.within) in
    let block = c.indices-len.ensures
    ∙ get_or_read bs start.block c.index.result.now inside c.index.ensures [] in
    rw (c.lesser-2.ensures, c.lesser.ensures)
    (least_of_three bs start end (length c.indices-len.result.now) c.least_within-first.result
    c.least_of_blocks-middle.result c.least_within-last.result c.requires.start c.requires.end before
    (ap length block) c.least_within-first.ensures c.least_of_blocks-middle.ensures
    c.least_within-last.ensures)
