use Rattle.std.proofs.Common.{◌≡◌, ◌∙◌, ◌<◌, ◌≤◌, [], sym, ap, length, get_or, arith}
use Rattle.s10_ranges.proofs.Blocks.{start_end, index_at, before_end}
use Rattle.s10_ranges.proofs.block_list.BlockList.at.Goals as goal

pub returns-in_err-block : goal.returns-in_err-block
returns-in_err-block c =
    let bs = c.args.self.now.blocks.items in
    let past : length bs ≤ c.args.cursor.block =
    omega (arith, ap length c.deref.ensures.value, c.in_err-block.ensures.lookup.3) in
    let end : c.args.cursor.block ≡ length bs = omega (arith, past, c.requires.within) in
    rw c.from_residual.ensures
    (omega (arith, start_end bs c.args.cursor.block past, c.requires.end end))

pub returns : goal.returns
returns c =
    let bs = c.args.self.now.blocks.items in
    let k = c.args.cursor.block in
    let o = c.args.cursor.offset in
    let lt : k < length bs =
    omega (arith, ap length c.deref.ensures.value, c.in_ok-block.ensures.lookup.3.0) in
    let block : get_or bs k [] ≡ c.indices.result.now =
    ap (λ xs. get_or xs k []) (sym c.deref.ensures.value)
    ∙ sym (c.indices.ensures ∙ c.in_ok-block.ensures.lookup.3.1 []) in
    let inside = c.requires.inside lt in (
      before_end bs k o lt inside,
      index_at bs k o inside ∙ ap (λ xs. get_or xs o 0) block,
    )
