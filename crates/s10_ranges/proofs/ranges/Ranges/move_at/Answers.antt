use Rattle.std.proofs.Common.{◌≡◌, ◌∙◌, ◌+◌, Some, length, refl, sym, ap, subst}
use Rattle.std.specs.Prelude.{find}
use Rattle.std.proofs.lemmas.Option.{none-some}
use Rattle.s10_core.specs.declared.id.Id.{Id}
use Rattle.s10_history.specs.History.{ranges_of, overlaps}
use Rattle.s10_ranges.specs.declared.mark_move.MarkMove.{MarkMove}
use Rattle.s10_ranges.specs.Moves.{IsMoveOf}
use Rattle.s10_ranges.proofs.Following.{found_reaches}
use Rattle.s10_ranges.proofs.Moving.{found_at, is_move, issues_to, mark_found, never_missing}
use Rattle.s10_ranges.proofs.Moving.{same_issued}
use Rattle.s10_ranges.proofs.ranges.Ranges.move_at.Goals as goal

pub returns-in_err-id : goal.returns-in_err-id
returns-in_err-id c h t i legal may m at =
    absurd (never_missing c.args.entry.now (1 + length h) 0 c.args.place i at (sym c.issue.ensures
    ∙ c.in_err-id.was))

pub returns-in_err-range : goal.returns-in_err-range
returns-in_err-range c h t i legal may m at =
    let e = c.args.entry.now in
    let x = c.in_ok-id.field-0.id in
    let found = found_at h t e c.args.place i legal may at in
    let P : Id → Type 0 = λ y. find (overlaps y.service y.country y.serial y.serial) (ranges_of h)
    ≡ Some found.0 in
    let here = subst P (same_issued e (1 + length h) 0 c.args.place i c.in_ok-id.field-0 at
    (sym c.issue.ensures ∙ c.in_ok-id.was)) found.1 in
    absurd (none-some found.0 (sym c.in_err-range.was ∙ c.covering_range.ensures
    ∙ ap (find (overlaps x.service x.country x.serial x.serial)) m.ranges ∙ here))

pub returns-in_err-mark : goal.returns-in_err-mark
returns-in_err-mark c h t i legal may m at =
    let held = mark_found c.args.self.now h c.in_ok-id.field-0.id c.in_ok-range.range
    c.args.self.now.sound m (sym c.covering_range.ensures ∙ c.in_ok-range.was) in
    absurd (none-some _ (sym c.in_err-mark.was ∙ c.mark.ensures.some held.0 ∙ held.1))

pub next_mark-requires : goal.next_mark-requires
next_mark-requires c =
    let x = c.in_ok-id.field-0.id in
    found_reaches x.service x.country x.serial c.args.self.now.ranges.items c.in_ok-range.range
    (sym c.covering_range.ensures ∙ c.in_ok-range.was)

pub returns : goal.returns
returns c h t i legal may m at =
    let e = c.args.entry.now in
    let j = c.in_ok-id.field-0 in
    let found = sym c.covering_range.ensures ∙ c.in_ok-range.was in
    let held = mark_found c.args.self.now h j.id c.in_ok-range.range c.args.self.now.sound m found in
    let move : MarkMove = record {
      num = c.in_ok-range.range.num;
      lap = c.lap_at-lap.result;
      mark = c.next_mark.result;
    } in
    let P : Id → Type 0 = λ y. IsMoveOf (ranges_of h) (issues_to h e c.args.place) y move in (
      refl,
      subst P (sym (same_issued e (1 + length h) 0 c.args.place i j at (sym c.issue.ensures
          ∙ c.in_ok-id.was)))
          (is_move c.args.self.now h e c.args.place j.id c.in_ok-range.range c.in_ok-mark.mark move
          c.args.self.now.sound m found
          (sym (c.mark.ensures.some held.0) ∙ c.in_ok-mark.was) refl c.lap_at-lap.ensures
          c.next_mark.ensures),
    )
