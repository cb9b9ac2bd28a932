use Rattle.std.proofs.Common.{◌∙◌, ◌+◌, get_or, sym, ap}
use Rattle.s10_ranges.specs.BlockList.{indices_of}
use Rattle.s10_ranges.specs.Blocks.{position_of}
use Rattle.s10_ranges.specs.Keys.{holder_key}
use Rattle.s10_ranges.proofs.HeldOrder.{IsCut, held_past, held_found, held_missed}
use Rattle.s10_ranges.proofs.lookups.next_held_in.Goals as goal

pub returns-in_err-place : goal.returns-in_err-place
returns-in_err-place c =
    let cut : IsCut c.args.ranges.now (indices_of c.args.by_holder.now) c.args.after c.args.customer
    c.args.service c.args.country (position_of c.args.by_holder.now.blocks.items
    c.cursor_at-cursor.result) c.holder_sort_key-key.result = record {
      sound = c.requires.sound;
      held = c.requires.held;
      service = c.holder_sort_key-key.ensures.service;
      country = c.holder_sort_key-key.ensures.country;
      key_is = c.holder_sort_key-key.ensures.value
          ∙ ap (λ n. holder_key c.args.customer c.args.service c.args.country (n + 1))
          c.from.ensures;
      below = c.cursor_at-cursor.ensures.below;
      above = c.cursor_at-cursor.ensures.above;
    } in
    c.from_residual.ensures ∙ sym (held_past _ _ _ _ _ _ _ _ cut c.in_err-place.ensures)

pub returns-then-is_later : goal.returns-then-is_later
returns-then-is_later c =
    let cut : IsCut c.args.ranges.now (indices_of c.args.by_holder.now) c.args.after c.args.customer
    c.args.service c.args.country (position_of c.args.by_holder.now.blocks.items
    c.cursor_at-cursor.result) c.holder_sort_key-key.result = record {
      sound = c.requires.sound;
      held = c.requires.held;
      service = c.holder_sort_key-key.ensures.service;
      country = c.holder_sort_key-key.ensures.country;
      key_is = c.holder_sort_key-key.ensures.value
          ∙ ap (λ n. holder_key c.args.customer c.args.service c.args.country (n + 1))
          c.from.ensures;
      below = c.cursor_at-cursor.ensures.below;
      above = c.cursor_at-cursor.ensures.above;
    } in
    let is = ap (λ i. get_or c.args.ranges.now i c.index-ranges-place.result) c.in_ok-place.ensures.1
    ∙ sym c.index-ranges-place.is in
    sym (held_found _ _ _ _ _ _ _ _ c.index-ranges-place.result cut c.in_ok-place.ensures.0 is
    (sym c.is_later.ensures ∙ c.if-is_later.true))

pub returns-else-is_later : goal.returns-else-is_later
returns-else-is_later c =
    let cut : IsCut c.args.ranges.now (indices_of c.args.by_holder.now) c.args.after c.args.customer
    c.args.service c.args.country (position_of c.args.by_holder.now.blocks.items
    c.cursor_at-cursor.result) c.holder_sort_key-key.result = record {
      sound = c.requires.sound;
      held = c.requires.held;
      service = c.holder_sort_key-key.ensures.service;
      country = c.holder_sort_key-key.ensures.country;
      key_is = c.holder_sort_key-key.ensures.value
          ∙ ap (λ n. holder_key c.args.customer c.args.service c.args.country (n + 1))
          c.from.ensures;
      below = c.cursor_at-cursor.ensures.below;
      above = c.cursor_at-cursor.ensures.above;
    } in
    let is = ap (λ i. get_or c.args.ranges.now i c.index-ranges-place.result) c.in_ok-place.ensures.1
    ∙ sym c.index-ranges-place.is in
    sym (held_missed _ _ _ _ _ _ _ _ c.index-ranges-place.result cut c.in_ok-place.ensures.0 is
    (sym c.is_later.ensures ∙ c.if-is_later.false))
