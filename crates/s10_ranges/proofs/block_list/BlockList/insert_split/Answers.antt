use Rattle.std.proofs.Common.{◌∙◌, ◌+◌, ◌-◌, ℕ, List, [], get_or, set, ap, arith}
use Rattle.std.specs.Prelude.{insert}
use Rattle.std.specs.List.{concat}
use Rattle.s10_ranges.specs.declared.block.TheConstants.{HALF}
use Rattle.s10_ranges.proofs.Blocks.{length_halved, lower_length, upper_length, insert_lower, insert_upper}
use Rattle.s10_ranges.proofs.block_list.BlockList.insert_split.Goals as goal

pub insert_within-requires-clause-there : goal.insert_within-requires-clause-there
insert_within-requires-clause-there c = rw c.split.ensures
    (omega (
      arith,
      length_halved c.args.self.now.blocks.items c.args.cursor.block c.requires.there,
      c.requires.there,
    ))

pub insert_within-requires-clause-within : goal.insert_within-requires-clause-within
insert_within-requires-clause-within c = rw c.split.ensures
    (omega (
      arith,
      lower_length c.args.self.now.blocks.items c.args.cursor.block c.requires.there
          c.requires.full,
      c.if-cursor-le-HALF.true,
    ))

pub insert_within-requires-clause-room : goal.insert_within-requires-clause-room
insert_within-requires-clause-room c = rw c.split.ensures
    (omega (
      arith,
      lower_length c.args.self.now.blocks.items c.args.cursor.block c.requires.there
          c.requires.full,
    ))

pub insert_within-requires-else-cursor-le-HALF-clause-there :
    goal.insert_within-requires-else-cursor-le-HALF-clause-there
insert_within-requires-else-cursor-le-HALF-clause-there c = rw c.split.ensures
    (omega (
      arith,
      length_halved c.args.self.now.blocks.items c.args.cursor.block c.requires.there,
      c.requires.there,
    ))

pub insert_within-requires-else-cursor-le-HALF-clause-within :
    goal.insert_within-requires-else-cursor-le-HALF-clause-within
insert_within-requires-else-cursor-le-HALF-clause-within c = rw c.split.ensures
    (omega (
      arith,
      upper_length c.args.self.now.blocks.items c.args.cursor.block c.requires.there
          c.requires.full,
      c.requires.within,
      c.requires.full,
    ))

pub insert_within-requires-else-cursor-le-HALF-clause-room :
    goal.insert_within-requires-else-cursor-le-HALF-clause-room
insert_within-requires-else-cursor-le-HALF-clause-room c = rw c.split.ensures
    (omega (
      arith,
      upper_length c.args.self.now.blocks.items c.args.cursor.block c.requires.there
          c.requires.full,
    ))

pub returns-then-cursor-le-HALF : goal.returns-then-cursor-le-HALF
returns-then-cursor-le-HALF c =
    let k = c.args.cursor.block in
    ap concat (c.insert_within.ensures
    ∙ ap (λ (bs : List (List ℕ)). set bs k (insert (get_or bs k []) c.args.cursor.offset
    c.args.index)) c.split.ensures)
    ∙ insert_lower c.args.self.now.blocks.items k c.args.cursor.offset c.args.index
    c.requires.there c.requires.full c.if-cursor-le-HALF.true

pub returns-else-cursor-le-HALF : goal.returns-else-cursor-le-HALF
returns-else-cursor-le-HALF c =
    let k = c.args.cursor.block in
    ap concat (c.insert_within-else-cursor-le-HALF.ensures
    ∙ ap (λ (bs : List (List ℕ)). set bs (k + 1) (insert (get_or bs (k + 1) [])
    (c.args.cursor.offset - HALF) c.args.index)) c.split.ensures)
    ∙ insert_upper c.args.self.now.blocks.items k c.args.cursor.offset c.args.index
    c.requires.there c.requires.full c.if-cursor-le-HALF.false c.requires.within
