use Rattle.std.proofs.Common.{◌≡◌, ◌∙◌, ◌<◌, ◌%◌, ◌/◌, Vec, Global, length, sym, ap, subst, arith, ◌≤◌}
use Rattle.std.specs.Prelude.{vec_capacity}
use Rattle.std.specs.Vec.{with_item}
use Rattle.std.proofs.Math.ListN.{set, length-set}
use Rattle.s10_index.specs.Blocks.{BlockList, items_in}
use Rattle.s10_index.proofs.BlockLists.{items_count, items_fit, item_within, set_item, set_filled, block_room}
use Rattle.s10_index.proofs.blocks.Blocks.set.Goals as goal

pub index_mut-block-requires : goal.index_mut-block-requires
index_mut-block-requires g c =
    let all = c.self.inside in
    omega (
      arith,
      c.requires,
      ap (λ (v : BlockList g.row.T.Denot). length v.items) c.self.view_is,
      items_count all.blocks.items all.count c.self.invariant.filled,
      items_fit all.blocks.items all.count c.self.invariant.filled,
      all.blocks.ok.0,
    )

pub index_mut-requires : goal.index_mut-requires
index_mut-requires g c =
    let all = c.self.inside in
    let lt : c.args.place < all.count = omega (
      arith,
      c.requires,
      ap (λ (v : BlockList g.row.T.Denot). length v.items) c.self.view_is,
      items_count all.blocks.items all.count c.self.invariant.filled,
    ) in
    omega (
      arith,
      item_within all.blocks.items all.count c.args.place c.index_mut-block.result.now
          c.self.invariant.filled lt,
      ap (λ (b : Vec g.row.T.Denot Global). length b.items) c.index_mut-block.ensures.value,
      c.index_mut-block.result.now.ok.0,
    )

pub invariant_of-self : goal.invariant_of-self
invariant_of-self g c =
    let all = c.self.inside in
    let block = c.index_mut-block.result.now in
    let there : c.args.place / 1024 < length all.blocks.items = omega (
      arith,
      c.requires,
      ap (λ (v : BlockList g.row.T.Denot). length v.items) c.self.view_is,
      items_count all.blocks.items all.count c.self.invariant.filled,
      items_fit all.blocks.items all.count c.self.invariant.filled,
    ) in
    let Roomy : Vec g.row.T.Denot Global → Type 0 = λ b. 1024 ≤ vec_capacity b in
    record {
      filled = set_filled all.blocks.items all.count (c.args.place / 1024) block
          (with_item block (c.args.place % 1024) c.args.item) c.self.invariant.filled
          (length-set block.items (c.args.place % 1024) c.args.item
          ∙ ap (λ (b : Vec g.row.T.Denot Global). length b.items) c.index_mut-block.ensures.value)
          (subst Roomy (sym c.index_mut-block.ensures.value) (block_room all.blocks.items all.count
          (c.args.place / 1024) block c.self.invariant.filled there));
      few = rw length-set c.self.invariant.few;
    }

pub returns-clause-items : goal.returns-clause-items
returns-clause-items g c =
    let all = c.self.inside in
    let block = c.index_mut-block.result.now in
    let view : items_in all.blocks.items ≡ c.args.self.now.items =
    ap (λ (v : BlockList g.row.T.Denot). v.items) c.self.view_is in
    let lt : c.args.place < all.count = omega (
      arith,
      c.requires,
      ap length view,
      items_count all.blocks.items all.count c.self.invariant.filled,
    ) in
    set_item all.blocks.items all.count c.args.place block
    (with_item block (c.args.place % 1024) c.args.item) c.args.item c.self.invariant.filled lt
    (ap (λ (b : Vec g.row.T.Denot Global). set b.items (c.args.place % 1024) c.args.item)
    c.index_mut-block.ensures.value)
    ∙ ap (λ l. set l c.args.place c.args.item) view

pub returns-clause-room : goal.returns-clause-room
returns-clause-room g c =
    rw length-set (ap (λ (v : BlockList g.row.T.Denot). v.room) c.self.view_is)
