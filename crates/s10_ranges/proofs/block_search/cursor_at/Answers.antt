use Rattle.std.proofs.Common.{◌∙◌, ◌<◌, ◌≤◌, [], ap, arith, length, get_or}
use Rattle.s10_ranges.specs.Keys.{key_by}
use Rattle.s10_ranges.proofs.Blocks.{start_end}
use Rattle.s10_ranges.proofs.BlockSearch.{IsPart, IsFound, part_places, part_rising, found_cursor}
use Rattle.s10_ranges.proofs.BlockSearch.{found_below, found_above}
use Rattle.s10_ranges.proofs.block_search.cursor_at.Goals as goal

pub first_at-requires-clause-places : goal.first_at-requires-clause-places
first_at-requires-clause-places c =
    let bs = c.args.list.now.blocks.items in
    let k = c.block_at-block.result in
    let there : k < length bs =
    omega (arith, ap length c.blocks-2.ensures, c.in-Some.ensures.lookup.3.0) in
    let part : IsPart (key_by c.args.by) c.args.ranges.now bs k c.indices.result.now = record {
      blocks = c.args.list.now.filled;
      places = c.requires.places;
      rising = c.requires.rising;
      there = there;
      is = c.indices.ensures ∙ c.in-Some.ensures.lookup.3.1 []
          ∙ ap (λ xs. get_or xs k []) c.blocks-2.ensures;
    } in
    part_places (key_by c.args.by) c.args.ranges.now bs k c.indices.result.now part

pub first_at-requires-clause-rising : goal.first_at-requires-clause-rising
first_at-requires-clause-rising c =
    let bs = c.args.list.now.blocks.items in
    let k = c.block_at-block.result in
    let there : k < length bs =
    omega (arith, ap length c.blocks-2.ensures, c.in-Some.ensures.lookup.3.0) in
    let part : IsPart (key_by c.args.by) c.args.ranges.now bs k c.indices.result.now = record {
      blocks = c.args.list.now.filled;
      places = c.requires.places;
      rising = c.requires.rising;
      there = there;
      is = c.indices.ensures ∙ c.in-Some.ensures.lookup.3.1 []
          ∙ ap (λ xs. get_or xs k []) c.blocks-2.ensures;
    } in
    part_rising (key_by c.args.by) c.args.ranges.now bs k c.indices.result.now part

pub returns-in-None-clause-above : goal.returns-in-None-clause-above
returns-in-None-clause-above c j d from lt =
    let past : length c.args.list.now.blocks.items ≤ c.block_at-block.result = omega (arith, ap length c.blocks-2.ensures, c.in-None.ensures.lookup.3) in
    absurd (omega (
      arith,
      from,
      lt,
      start_end c.args.list.now.blocks.items c.block_at-block.result
          past,
    ))

pub returns-in-Some-clause-at : goal.returns-in-Some-clause-at
returns-in-Some-clause-at c =
    let bs = c.args.list.now.blocks.items in
    let k = c.block_at-block.result in
    let there : k < length bs =
    omega (arith, ap length c.blocks-2.ensures, c.in-Some.ensures.lookup.3.0) in
    let part : IsPart (key_by c.args.by) c.args.ranges.now bs k c.indices.result.now = record {
      blocks = c.args.list.now.filled;
      places = c.requires.places;
      rising = c.requires.rising;
      there = there;
      is = c.indices.ensures ∙ c.in-Some.ensures.lookup.3.1 []
          ∙ ap (λ xs. get_or xs k []) c.blocks-2.ensures;
    } in
    let found : IsFound (key_by c.args.by) c.args.ranges.now bs k c.first_at.result c.args.key
    c.indices.result.now = record {
      part = part;
      before = c.block_at-block.ensures.below;
      since = λ j d. c.block_at-block.ensures.above j d there;
      below = c.first_at.ensures.below;
      above = c.first_at.ensures.above;
    } in
    found_cursor (key_by c.args.by) c.args.ranges.now bs k c.first_at.result c.args.key
    c.indices.result.now found

pub returns-in-Some-clause-below : goal.returns-in-Some-clause-below
returns-in-Some-clause-below c =
    let bs = c.args.list.now.blocks.items in
    let k = c.block_at-block.result in
    let there : k < length bs =
    omega (arith, ap length c.blocks-2.ensures, c.in-Some.ensures.lookup.3.0) in
    let part : IsPart (key_by c.args.by) c.args.ranges.now bs k c.indices.result.now = record {
      blocks = c.args.list.now.filled;
      places = c.requires.places;
      rising = c.requires.rising;
      there = there;
      is = c.indices.ensures ∙ c.in-Some.ensures.lookup.3.1 []
          ∙ ap (λ xs. get_or xs k []) c.blocks-2.ensures;
    } in
    let found : IsFound (key_by c.args.by) c.args.ranges.now bs k c.first_at.result c.args.key
    c.indices.result.now = record {
      part = part;
      before = c.block_at-block.ensures.below;
      since = λ j d. c.block_at-block.ensures.above j d there;
      below = c.first_at.ensures.below;
      above = c.first_at.ensures.above;
    } in
    found_below (key_by c.args.by) c.args.ranges.now bs k c.first_at.result c.args.key
    c.indices.result.now found

pub returns-in-Some-clause-above : goal.returns-in-Some-clause-above
returns-in-Some-clause-above c =
    let bs = c.args.list.now.blocks.items in
    let k = c.block_at-block.result in
    let there : k < length bs =
    omega (arith, ap length c.blocks-2.ensures, c.in-Some.ensures.lookup.3.0) in
    let part : IsPart (key_by c.args.by) c.args.ranges.now bs k c.indices.result.now = record {
      blocks = c.args.list.now.filled;
      places = c.requires.places;
      rising = c.requires.rising;
      there = there;
      is = c.indices.ensures ∙ c.in-Some.ensures.lookup.3.1 []
          ∙ ap (λ xs. get_or xs k []) c.blocks-2.ensures;
    } in
    let found : IsFound (key_by c.args.by) c.args.ranges.now bs k c.first_at.result c.args.key
    c.indices.result.now = record {
      part = part;
      before = c.block_at-block.ensures.below;
      since = λ j d. c.block_at-block.ensures.above j d there;
      below = c.first_at.ensures.below;
      above = c.first_at.ensures.above;
    } in
    found_above (key_by c.args.by) c.args.ranges.now bs k c.first_at.result c.args.key
    c.indices.result.now found
