use Rattle.std.proofs.Common.{◌≡◌, ◌∙◌, ◌<◌, ◌≤◌, ℕ, ◌+◌, ◌*◌, ◌%◌, ◌/◌, ◌++◌, ◌∷◌, [], Vec, Global, length}
use Rattle.std.proofs.Common.{ap, arith}
use Rattle.std.specs.Prelude.{vec_capacity}
use Rattle.std.proofs.Math.ListN.{length-set}
use Rattle.std.proofs.lemmas.List.{length_push}
use Rattle.s10_index.specs.Blocks.{BlockList}
use Rattle.s10_index.proofs.BlockLists.{next_within, push_item, push_filled, block_room}
use Rattle.s10_index.proofs.blocks.Blocks.push_reserved.Goals as goal

pub push_reserved-requires : goal.push_reserved-requires
push_reserved-requires g c =
    let all = c.self.inside in
    let block = c.index_mut-block.result.now in
    let lt : all.count < 1024 * length all.blocks.items =
    omega (arith, c.requires, ap (λ (v : BlockList g.row.T.Denot). v.room) c.self.view_is) in
    let value = c.index_mut-block.ensures.value in
    omega (
      arith,
      block.ok.0,
      ap (λ (b : Vec g.row.T.Denot Global). length b.items) value,
      ap (λ (b : Vec g.row.T.Denot Global). vec_capacity b) value,
      next_within all.blocks.items all.count block c.self.invariant.filled lt,
      block_room all.blocks.items all.count (all.count / 1024) block c.self.invariant.filled
          (omega (arith, lt)),
    )

pub invariant_of-self : goal.invariant_of-self
invariant_of-self g c =
    let all = c.self.inside in
    let block = c.index_mut-block.result.now in
    let new = c.push_reserved.new.self in
    let lt : all.count < 1024 * length all.blocks.items =
    omega (arith, c.requires, ap (λ (v : BlockList g.row.T.Denot). v.room) c.self.view_is) in
    let value = c.index_mut-block.ensures.value in
    let long : length new.items ≡ all.count % 1024 + 1 =
    ap length c.push_reserved.ensures.items ∙ length_push block.items c.args.item
    ∙ ap (λ (n : ℕ). n + 1) (ap (λ (b : Vec g.row.T.Denot Global). length b.items) value
    ∙ next_within all.blocks.items all.count block c.self.invariant.filled lt) in
    let roomy : 1024 ≤ vec_capacity new = omega (
      arith,
      c.push_reserved.ensures.capacity,
      ap (λ (b : Vec g.row.T.Denot Global). vec_capacity b) value,
      block_room all.blocks.items all.count (all.count / 1024) block c.self.invariant.filled
          (omega (arith, lt)),
    ) in
    record {
      filled = push_filled all.blocks.items all.count block new c.self.invariant.filled lt long
          roomy;
      few = rw length-set c.self.invariant.few;
    }

pub returns-clause-items : goal.returns-clause-items
returns-clause-items g c =
    let all = c.self.inside in
    let block = c.index_mut-block.result.now in
    let new = c.push_reserved.new.self in
    let lt : all.count < 1024 * length all.blocks.items =
    omega (arith, c.requires, ap (λ (v : BlockList g.row.T.Denot). v.room) c.self.view_is) in
    push_item all.blocks.items all.count block new c.args.item c.self.invariant.filled lt
    (c.push_reserved.ensures.items ∙ ap (λ (b : Vec g.row.T.Denot Global). b.items
    ++ c.args.item ∷ []) c.index_mut-block.ensures.value)
    ∙ ap (λ l. l ++ c.args.item ∷ []) (ap (λ (v : BlockList g.row.T.Denot). v.items)
    c.self.view_is)
