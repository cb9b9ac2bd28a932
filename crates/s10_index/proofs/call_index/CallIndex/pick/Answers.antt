use Rattle.std.proofs.Common.{◌∙◌, sym, ap}
use Rattle.std.proofs.lemmas.Option.{none-some, same_Some}
use Rattle.s10_history.specs.Issues.{issues_of}
use Rattle.s10_ranges.specs.declared.mark.Mark.{Mark}
use Rattle.s10_ranges.specs.Laps.{mark_of}
use Rattle.s10_ranges.proofs.Marked.{mark_above, mark_held}
use Rattle.s10_index.proofs.call_index.CallIndex.pick.Goals as goal

pub returns-in-None : goal.returns-in-None
returns-in-None c h indexes has =
    let r = c.args.self.now.ranges in
    let held = c.mark.ensures.some (mark_above r h c.args.range.now r.sound indexes.ranges has)
    ∙ mark_held r h c.args.range.now r.sound indexes.ranges has in
    absurd (none-some (mark_of (issues_of h) c.args.range.now) (sym c.in-None.is ∙ held))

pub returns-in-Some : goal.returns-in-Some
returns-in-Some c h indexes has =
    let r = c.args.self.now.ranges in
    let held = c.mark.ensures.some (mark_above r h c.args.range.now r.sound indexes.ranges has)
    ∙ mark_held r h c.args.range.now r.sound indexes.ranges has in
    ap (λ (m : Mark). m.serial) (same_Some c.in-Some.mark (mark_of (issues_of h) c.args.range.now)
    (sym c.in-Some.is ∙ held))
