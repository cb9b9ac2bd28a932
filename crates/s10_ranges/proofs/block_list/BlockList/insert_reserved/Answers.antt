use Rattle.std.proofs.Common.{◌≡◌, ◌∙◌, ◌<◌, length, ap, arith}
use Rattle.std.specs.List.{concat}
use Rattle.s10_ranges.proofs.Blocks.{concat_insert, insert_after}
use Rattle.s10_ranges.proofs.block_list.BlockList.insert_reserved.Goals as goal

pub returns-then-cursor-len : goal.returns-then-cursor-len
returns-then-cursor-len c =
    let end : c.args.cursor.block ≡ length c.args.self.now.blocks.items =
    omega (arith, c.len.ensures, c.args.self.now.blocks.ok.0, c.if-cursor-len.true) in
    c.push_reserved.ensures
    ∙ insert_after c.args.self.now.blocks.items c.args.cursor c.args.index c.requires.at end

pub returns-else-is_full : goal.returns-else-is_full
returns-else-is_full c =
    let bs = c.args.self.now.blocks.items in
    let lt : c.args.cursor.block < length bs = omega (
      arith,
      c.len.ensures,
      c.args.self.now.blocks.ok.0,
      c.if-cursor-len.false,
      c.requires.at.within,
    ) in
    let inside = c.requires.at.inside lt in
    ap concat c.insert_within.ensures
    ∙ concat_insert bs c.args.cursor.block c.args.cursor.offset c.args.index lt
    (omega (arith, inside))
