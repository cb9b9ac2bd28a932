use Rattle.std.proofs.Common.{◌<◌, ◌∙◌, sym, arith}
use Rattle.std.specs.Prelude.{Some}
use Rattle.s10_history.specs.History.{ranges_of}
use Rattle.s10_book.specs.Rules.{is_free_range}
use Rattle.s10_history.proofs.Numbering.{found_above}
use Rattle.s10_book.proofs.draws.next_free_after.Goals as goal
use Rattle.s10_book.proofs.draws.next_free_after.Goals.{in_default-via-in-Some+else-after-range}
use Rattle.s10_book.proofs.draws.next_free_after.Goals.{in_default-via-in_default}

pub returns-in-Some-clause-answer : goal.returns-in-Some-clause-answer
returns-in-Some-clause-answer g c = λ h. sym c.in-Some.is ∙ c.in_ok-range.ensures.answer h

pub returns-in_default-clause-answer : goal.returns-in_default-clause-answer
returns-in_default-clause-answer g c = λ h.
    let first = g.B.Book.history c.args.book.now in
    let held = c.args.held.now in
    let p = is_free_range first held.holder held.service held.country c.args.day
    (g.B.Book.terms c.args.book.now).interval in
    elim c.in_default.branch [
      | in_default-via-in-Some+else-after-range w ↦
          let up : c.args.after < w.in-Some.range.num =
          found_above p c.args.after (ranges_of first) (Some w.in-Some.range)
          (sym w.in-Some.is ∙ c.in_ok-range.ensures.answer h) in
          absurd (omega (arith, up, w.if-after-range.false))
      | in_default-via-in_default w ↦ sym w.in_default.is ∙ c.in_ok-range.ensures.answer h
    ]
