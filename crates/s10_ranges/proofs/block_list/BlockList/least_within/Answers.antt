use Rattle.std.proofs.Common.{◌≡◌, ◌∙◌, [], ℕ, List, get_or, ap, subst}
use Rattle.s10_ranges.specs.Order.{IsLeastIn}
use Rattle.s10_ranges.proofs.BlockLeasts.{least_of_part}
use Rattle.s10_ranges.proofs.block_list.BlockList.least_within.Goals as goal

pub returns : goal.returns
returns c =
    let bs = c.args.self.now.blocks.items in
    let k = c.args.block in
    let block : c.indices.result.now ≡ get_or bs k [] =
    c.indices.ensures ∙ c.in_ok-block.ensures.lookup.3.1 []
    ∙ ap (λ xs. get_or xs k []) c.deref.ensures.value in
    let P : List ℕ → Type 0 = λ xs. IsLeastIn xs c.args.start c.args.end c.least_in.result in
    least_of_part bs k c.args.start c.args.end c.least_in.result c.requires
    (subst P block c.least_in.ensures)
