use Rattle.std.proofs.Common.{◌≡◌, ◌∙◌, ◌<◌, [], length, get_or, sym, ap, arith}
use Rattle.std.specs.Prelude.{slice_range}
use Rattle.std.specs.List.{concat}
use Rattle.std.proofs.lemmas.Bool.{cases_lt}
use Rattle.std.proofs.Common.{inl, inr}
use Rattle.std.proofs.lemmas.List.{get_or_read}
use Rattle.s10_ranges.specs.Blocks.{start_of, position_of}
use Rattle.s10_ranges.proofs.Blocks.{cursor_inside, cursor_within, part_of_block, part_here}
use Rattle.s10_ranges.proofs.Blocks.{part_whole}
use Rattle.s10_ranges.proofs.BlockLeasts.{earlier_block}
use Rattle.s10_ranges.proofs.block_list.BlockList.part.Goals as goal

pub index-requires : goal.index-requires
index-requires c =
    let bs = c.args.self.now.blocks.items in
    let end = cursor_within bs c.args.end c.requires.end in
    omega (
      arith,
      c.args.self.now.blocks.ok.0,
      cursor_inside bs c.args.cursor c.requires.start
          (omega (arith, end, c.requires.before)),
    )

pub returns-then-cursor-end : goal.returns-then-cursor-end
returns-then-cursor-end c =
    let bs = c.args.self.now.blocks.items in
    let k = c.args.cursor.block in
    let end = cursor_within bs c.args.end c.requires.end in
    let lt = cursor_inside bs c.args.cursor c.requires.start
    (omega (arith, end, c.requires.before)) in
    let same : k ≡ c.args.end.block = c.if-cursor-end.true in
    let start : start_of bs c.args.end.block ≡ start_of bs k = ap (start_of bs) (sym same) in
    let size : length (get_or bs c.args.end.block []) ≡ length (get_or bs k []) =
    ap (λ i. length (get_or bs i [])) (sym same) in
    let inside = c.requires.end.inside (omega (arith, same, lt)) in
    let block : c.indices-indices.result.now ≡ get_or bs k [] = c.indices-indices.ensures
    ∙ get_or_read bs k c.index.result.now lt c.index.ensures [] in
    ap (λ xs. slice_range xs c.args.cursor.offset c.args.end.offset) block
    ∙ part_of_block bs k c.args.cursor.offset c.args.end.offset lt
    (omega (arith, c.requires.before, start)) (omega (arith, inside, size))
    ∙ ap (slice_range (concat bs) (position_of bs c.args.cursor))
    (sym (part_here bs c.args.cursor c.args.end c.requires.end same lt))

pub returns : goal.returns
returns c =
    let bs = c.args.self.now.blocks.items in
    let k = c.args.cursor.block in
    let end = cursor_within bs c.args.end c.requires.end in
    let lt = cursor_inside bs c.args.cursor c.requires.start
    (omega (arith, end, c.requires.before)) in
    let before : k < c.args.end.block = elim (cases_lt c.args.end.block k) [
      | inl earlier ↦ let fact = earlier_block bs c.args.cursor c.args.end c.requires.start
          c.requires.end earlier in absurd (omega (arith, fact, c.requires.before))
      | inr ge ↦ omega (arith, ge, c.if-cursor-end.false)
    ] in
    let block : c.indices-indices.result.now ≡ get_or bs k [] = c.indices-indices.ensures
    ∙ get_or_read bs k c.index.result.now lt c.index.ensures [] in
    let offset = c.requires.start.inside lt in
    ap (λ xs. slice_range xs c.args.cursor.offset (length xs)) block
    ∙ part_of_block bs k c.args.cursor.offset (length (get_or bs k [])) lt (omega (arith, offset))
    (omega arith)
    ∙ ap (slice_range (concat bs) (position_of bs c.args.cursor))
    (sym (part_whole bs c.args.cursor c.args.end before lt))
