use Rattle.std.proofs.Common.{arith, sym}
use Rattle.s10_ranges.specs.BlockList.{indices_of}
use Rattle.s10_ranges.specs.Blocks.{position_of}
use Rattle.s10_ranges.proofs.Blocks.{cursor_within}
use Rattle.s10_ranges.proofs.Placing.{IsRun, rising_first, rising_last, run_none, run_found}
use Rattle.s10_ranges.proofs.Placing.{run_place, empty_none}
use Rattle.s10_ranges.proofs.lookups.covering_in.Goals as goal

pub returns-then-value : goal.returns-then-value
returns-then-value c = sym (empty_none c.args.ranges.now c.args.service c.args.country c.args.first
    c.args.last (omega (arith, c.value.ensures.value, c.value-2.ensures.value, c.if-value.true)))

pub cursor_at-start-requires-clause-rising : goal.cursor_at-start-requires-clause-rising
cursor_at-start-requires-clause-rising c = rising_last c.args.ranges.now (indices_of c.args.by_serial.now)
    c.requires.sound c.requires.placed

pub cursor_at-end-requires-clause-rising : goal.cursor_at-end-requires-clause-rising
cursor_at-end-requires-clause-rising c = rising_first c.args.ranges.now (indices_of c.args.by_serial.now)
    c.requires.sound c.requires.placed

pub bounds-ranges-place : goal.bounds-ranges-place
bounds-ranges-place c =
    let bs = c.args.by_serial.now.blocks.items in
    run_place c.args.ranges.now (indices_of c.args.by_serial.now)
    (position_of bs c.cursor_at-start.result) (position_of bs c.cursor_at-end.result)
    c.in-Some.place c.requires.placed
    (cursor_within bs c.cursor_at-end.result c.cursor_at-end.ensures.at) c.in-Some.ensures

pub returns-in-None : goal.returns-in-None
returns-in-None c =
    let run : IsRun c.args.ranges.now (indices_of c.args.by_serial.now) c.args.service c.args.country
    c.args.first c.args.last (position_of c.args.by_serial.now.blocks.items c.cursor_at-start.result)
    (position_of c.args.by_serial.now.blocks.items c.cursor_at-end.result)
    c.serial_sort_key-low.result c.serial_sort_key-high.result = record {
      sound = c.requires.sound;
      placed = c.requires.placed;
      service = c.serial_sort_key-low.ensures.service;
      country = c.serial_sort_key-low.ensures.country;
      from = c.serial_sort_key-low.ensures.serial;
      to = c.serial_sort_key-high.ensures.serial;
      ordered = omega (arith, c.value.ensures.value, c.value-2.ensures.value, c.if-value.false);
      low_is = c.serial_sort_key-low.ensures.value;
      high_is = c.serial_sort_key-high.ensures.value;
      within = cursor_within c.args.by_serial.now.blocks.items c.cursor_at-end.result c.cursor_at-end.ensures.at;
      before = c.cursor_at-start.ensures.below;
      since = c.cursor_at-start.ensures.above;
      until = c.cursor_at-end.ensures.below;
      behind = c.cursor_at-end.ensures.above;
    } in
    sym (run_none _ _ _ _ _ _ _ _ _ _ run c.in-None.ensures)

pub returns-in-Some : goal.returns-in-Some
returns-in-Some c =
    let run : IsRun c.args.ranges.now (indices_of c.args.by_serial.now) c.args.service c.args.country
    c.args.first c.args.last (position_of c.args.by_serial.now.blocks.items c.cursor_at-start.result)
    (position_of c.args.by_serial.now.blocks.items c.cursor_at-end.result)
    c.serial_sort_key-low.result c.serial_sort_key-high.result = record {
      sound = c.requires.sound;
      placed = c.requires.placed;
      service = c.serial_sort_key-low.ensures.service;
      country = c.serial_sort_key-low.ensures.country;
      from = c.serial_sort_key-low.ensures.serial;
      to = c.serial_sort_key-high.ensures.serial;
      ordered = omega (arith, c.value.ensures.value, c.value-2.ensures.value, c.if-value.false);
      low_is = c.serial_sort_key-low.ensures.value;
      high_is = c.serial_sort_key-high.ensures.value;
      within = cursor_within c.args.by_serial.now.blocks.items c.cursor_at-end.result c.cursor_at-end.ensures.at;
      before = c.cursor_at-start.ensures.below;
      since = c.cursor_at-start.ensures.above;
      until = c.cursor_at-end.ensures.below;
      behind = c.cursor_at-end.ensures.above;
    } in
    sym (run_found _ _ _ _ _ _ _ _ _ _ c.in-Some.place c.index-ranges-place.result run
    c.in-Some.ensures (sym c.index-ranges-place.is))
