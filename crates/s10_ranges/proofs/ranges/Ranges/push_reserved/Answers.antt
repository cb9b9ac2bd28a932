use Rattle.std.proofs.Common.{arith, ◌≡◌, ◌∷◌, [], refl, ap, length, length-append}
use Rattle.s10_ranges.specs.declared.sort_key.SortKey.TheVariants.{First, Last, Holder}
use Rattle.s10_ranges.specs.BlockList.{indices_of}
use Rattle.s10_ranges.specs.Blocks.{position_of}
use Rattle.s10_ranges.specs.Keys.{key_by}
use Rattle.s10_ranges.specs.Sound.{IsSound}
use Rattle.s10_ranges.proofs.Blocks.{cursor_within}
use Rattle.s10_ranges.proofs.Pushing.{IsOrder-grown, AreSound-push}
use Rattle.s10_ranges.proofs.ranges.Ranges.push_reserved.Goals as goal

pub invariant_of-self : goal.invariant_of-self
invariant_of-self c =
    let rs = c.args.self.now.ranges.items in
    let count : c.len-place.result ≡ length rs = omega (
      arith,
      c.len-place.ensures,
      c.args.self.now.ranges.ok.0,
    ) in
    let serial_at = position_of c.args.self.now.by_serial.blocks.items
    c.cursor_by_serial-placed_at.result in
    let holder_at = position_of c.args.self.now.by_holder.blocks.items
    c.cursor_by_holder-held_at.result in
    let new : IsSound (length rs) c.args.range = record {
      fitting = c.cursor_by_serial-placed_at.ensures.fitting;
      num = c.requires.num;
      small = omega (arith, c.requires.num, c.requires.few);
      proper = c.requires.proper;
    } in
    record {
      sound = AreSound-push rs _ c.args.range c.args.self.now.sound new
          c.push_reserved.ensures.items;
      marked = omega (
        arith,
        ap length c.push_reserved.ensures.items,
        ap length c.push_reserved-2.ensures.items,
        length-append rs (c.args.range ∷ []),
        length-append c.args.self.now.marks.items (c.args.mark ∷ []),
        c.args.self.now.marked,
      );
      placed = IsOrder-grown (key_by First) (key_by Last) rs c.deref.result.now _
          (indices_of c.args.self.now.by_serial) (indices_of c.args.self.now.by_serial) _
          c.args.range serial_at c.len-place.result c.args.self.now.placed c.deref.ensures.value
          refl (cursor_within c.args.self.now.by_serial.blocks.items
          c.cursor_by_serial-placed_at.result c.cursor_by_serial-placed_at.ensures.at) count
          c.cursor_by_serial-placed_at.ensures.below c.cursor_by_serial-placed_at.ensures.above
          c.push_reserved.ensures.items c.insert_reserved.ensures;
      held = IsOrder-grown (key_by Holder) (key_by Holder) rs c.deref-2.result.now _
          (indices_of c.args.self.now.by_holder) (indices_of c.args.self.now.by_holder) _
          c.args.range holder_at c.len-place.result c.args.self.now.held c.deref-2.ensures.value
          refl (cursor_within c.args.self.now.by_holder.blocks.items
          c.cursor_by_holder-held_at.result c.cursor_by_holder-held_at.ensures.at) count
          c.cursor_by_holder-held_at.ensures.below c.cursor_by_holder-held_at.ensures.above
          c.push_reserved.ensures.items c.insert_reserved-2.ensures;
    }
