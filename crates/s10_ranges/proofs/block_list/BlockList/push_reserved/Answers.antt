use Rattle.std.proofs.Common.{◌≡◌, ◌∙◌, ◌-◌, ◌<◌, ℕ, [], ◌∷◌, length, ap, arith}
use Rattle.std.specs.List.{concat}
use Rattle.std.proofs.lemmas.List.{get_or_read}
use Rattle.s10_ranges.proofs.Blocks.{concat_push, insert_last}
use Rattle.s10_ranges.proofs.block_list.BlockList.push_reserved.Goals as goal

pub returns-then-count-eq0 : goal.returns-then-count-eq0
returns-then-count-eq0 c = ap concat c.push_block.ensures
    ∙ concat_push c.args.self.now.blocks.items (c.args.index ∷ [])

pub returns : goal.returns
returns c =
    let bs = c.args.self.now.blocks.items in
    let k : ℕ = c.len-count.result - 1 in
    let count : c.len-count.result ≡ length bs =
    omega (arith, c.len-count.ensures, c.args.self.now.blocks.ok.0) in
    let lt : k < length bs = omega (arith, count, c.if-count-eq0.false) in
    let block = c.indices-offset.ensures
    ∙ get_or_read bs k c.index-2.result.now lt c.index-2.ensures [] in
    ap concat c.insert_within.ensures
    ∙ insert_last bs k (length c.indices-offset.result.now) c.args.index
    (omega (arith, count, c.if-count-eq0.false)) (ap length block)
