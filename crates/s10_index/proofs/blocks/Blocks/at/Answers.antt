use Rattle.std.proofs.Common.{◌≡◌, ◌∙◌, ◌<◌, ◌%◌, Vec, Global, length, get_or, refl, ap, arith}
use Rattle.std.proofs.lemmas.Option.{slice_get_read}
use Rattle.s10_index.specs.Blocks.{BlockList, items_in}
use Rattle.s10_index.proofs.BlockLists.{items_count, items_fit, item_within, item_at}
use Rattle.s10_index.proofs.blocks.Blocks.at.Goals as goal

pub index-requires : goal.index-requires
index-requires g c =
    let all = c.self.inside in
    omega (
      arith,
      c.requires,
      ap (λ (v : BlockList g.row.T.Denot). length v.items) c.self.view_is,
      items_count all.blocks.items all.count c.self.invariant.filled,
      items_fit all.blocks.items all.count c.self.invariant.filled,
      all.blocks.ok.0,
    )

pub index-requires-2 : goal.index-requires-2
index-requires-2 g c =
    let all = c.self.inside in
    let lt : c.args.place < all.count = omega (
      arith,
      c.requires,
      ap (λ (v : BlockList g.row.T.Denot). length v.items) c.self.view_is,
      items_count all.blocks.items all.count c.self.invariant.filled,
    ) in
    omega (
      arith,
      item_within all.blocks.items all.count c.args.place c.index.result.now
          c.self.invariant.filled lt,
      ap (λ (b : Vec g.row.T.Denot Global). length b.items) c.index.ensures,
      c.index.result.now.ok.0,
    )

pub returns : goal.returns
returns g c =
    let all = c.self.inside in
    let item = c.index-2.result.now in
    let view : items_in all.blocks.items ≡ c.args.self.now.items =
    ap (λ (v : BlockList g.row.T.Denot). v.items) c.self.view_is in
    let lt : c.args.place < all.count = omega (
      arith,
      c.requires,
      ap length view,
      items_count all.blocks.items all.count c.self.invariant.filled,
    ) in
    slice_get_read c.args.self.now.items (length c.args.self.now.items) c.args.place item refl
    c.requires (c.index-2.ensures
    ∙ ap (λ (b : Vec g.row.T.Denot Global). get_or b.items (c.args.place % 1024) item)
    c.index.ensures
    ∙ item_at all.blocks.items all.count c.args.place c.index.result.now item
    c.self.invariant.filled lt
    ∙ ap (λ l. get_or l c.args.place item) view)
