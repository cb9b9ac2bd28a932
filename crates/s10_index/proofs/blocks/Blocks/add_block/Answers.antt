use Rattle.std.proofs.Common.{◌≡◌, ◌∙◌, ◌≤◌, ◌++◌, ◌∷◌, [], List, Vec, Global, length, sym, ap, subst}
use Rattle.std.proofs.Common.{arith}
use Rattle.std.specs.Prelude.{vec_capacity}
use Rattle.std.proofs.lemmas.List.{length_push}
use Rattle.s10_index.specs.Blocks.{BlockList, items_in, AreFilled}
use Rattle.s10_index.proofs.BlockLists.{items_fit, add_filled, add_none}
use Rattle.s10_index.proofs.blocks.Blocks.add_block.Goals as goal

pub invariant_of-self-2 : goal.invariant_of-self-2
invariant_of-self-2 g c =
    let all = c.self.inside in
    let block = c.in_ok-block.block in
    let grown : c.push_reserved.new.self.items ≡ all.blocks.items ++ block ∷ [] =
    c.push_reserved.ensures.items
    ∙ ap (λ (l : List (Vec g.row.T.Denot Global)). l ++ block ∷ []) c.reserve.ensures.items in
    let roomy : 1024 ≤ vec_capacity block = omega (arith, c.in_ok-block.ensures.capacity) in
    let Filled : List (Vec g.row.T.Denot Global) → Type 0 = λ l. AreFilled l all.count in
    record {
      filled = subst Filled (sym grown)
          (add_filled all.blocks.items all.count block c.self.invariant.filled
          c.in_ok-block.ensures.items roomy);
      few = omega (
        arith,
        ap length grown,
        length_push all.blocks.items block,
        c.if-len-ge-MAX_BLOCKS.false,
        c.len.ensures,
        all.blocks.ok.0,
      );
    }

pub returns-clause-items : goal.returns-clause-items
returns-clause-items g c =
    let all = c.self.inside in
    let block = c.in_ok-block.block in
    ap items_in (c.push_reserved.ensures.items
    ∙ ap (λ (l : List (Vec g.row.T.Denot Global)). l ++ block ∷ []) c.reserve.ensures.items)
    ∙ add_none all.blocks.items block c.in_ok-block.ensures.items
    ∙ ap (λ (v : BlockList g.row.T.Denot). v.items) c.self.view_is

pub returns-clause-room : goal.returns-clause-room
returns-clause-room g c =
    let all = c.self.inside in
    let block = c.in_ok-block.block in
    omega (
      arith,
      ap length c.push_reserved.ensures.items,
      length_push c.reserve.new.self.items block,
      ap length c.reserve.ensures.items,
      ap (λ (v : BlockList g.row.T.Denot). v.room) c.self.view_is,
      items_fit all.blocks.items all.count c.self.invariant.filled,
    )
