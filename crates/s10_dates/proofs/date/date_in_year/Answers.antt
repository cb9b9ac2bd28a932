use Rattle.std.proofs.Common.{◌≡◌, ◌∙◌, ◌<◌, ◌+◌, ◌-◌, sym, refl, arith, subst, ℕ}
use Rattle.s10_dates.specs.Dates.{month_length}
use Rattle.s10_dates.proofs.Calendar.{month_step, month_date, month_few, no_month, year_is}
use Rattle.s10_dates.proofs.date.date_in_year.Goals.{else-loop-done-test, then-loop-done-test+then-left-length}
use Rattle.s10_dates.proofs.date.date_in_year.Goals as goal

pub loop-done-init : goal.loop-done-init
loop-done-init c = record {
  month = refl;
  within = subst (λ (n : ℕ). c.args.days < n) (year_is c.args.year) c.requires;
  date = refl;
}

pub loop-done-preserved : goal.loop-done-preserved
loop-done-preserved c =
    let i = c.loop-done.invariant in
    let length : c.month_length-length.result ≡ month_length c.args.year c.loop-done.month =
    c.month_length-length.ensures in
    let step = month_step c.args.year c.loop-done.month c.loop-done.left
    (12 - (c.loop-done._done + 1)) (12 - c.loop-done._done)
    (omega (arith, c.loop-done-test.true)) (omega (arith, i.month, c.loop-done-test.true))
    (omega (arith, length, c.if-left-length.false)) i.within in
    rw length (record {
      month = omega (arith, i.month);
      within = step.0;
      date = i.date ∙ step.1;
    })

pub overflow_cast-result : goal.overflow_cast-result
overflow_cast-result c =
    let few = month_few c.args.year c.loop-done.month in
    elim c.loop-done-test.branch [
      | else-loop-done-test w ↦ absurd (no_month c.args.year c.loop-done.month c.loop-done.left
          (12 - c.loop-done._done) (omega (arith, w.loop-done-test.false))
          c.loop-done.invariant.within)
      | then-loop-done-test+then-left-length w ↦ omega (
        arith,
        few,
        w.month_length-length.ensures,
        w.if-left-length.true,
      )
    ]

pub overflow_add-result : goal.overflow_add-result
overflow_add-result c =
    let few = month_few c.args.year c.loop-done.month in
    elim c.loop-done-test.branch [
      | else-loop-done-test w ↦ absurd (no_month c.args.year c.loop-done.month c.loop-done.left
          (12 - c.loop-done._done) (omega (arith, w.loop-done-test.false))
          c.loop-done.invariant.within)
      | then-loop-done-test+then-left-length w ↦ omega (
        arith,
        few,
        w.month_length-length.ensures,
        w.if-left-length.true,
      )
    ]

pub returns-clause-date : goal.returns-clause-date
returns-clause-date c =
    elim c.loop-done-test.branch [
      | else-loop-done-test w ↦ absurd (no_month c.args.year c.loop-done.month c.loop-done.left
          (12 - c.loop-done._done) (omega (arith, w.loop-done-test.false))
          c.loop-done.invariant.within)
      | then-loop-done-test+then-left-length w ↦ month_date c.args.year c.loop-done.month
          c.loop-done.left (omega (arith, w.month_length-length.ensures, w.if-left-length.true))
          ∙ sym c.loop-done.invariant.date
    ]

pub returns-clause-two_digits : goal.returns-clause-two_digits
returns-clause-two_digits c =
    let few = month_few c.args.year c.loop-done.month in
    elim c.loop-done-test.branch [
      | else-loop-done-test w ↦ absurd (no_month c.args.year c.loop-done.month c.loop-done.left
          (12 - c.loop-done._done) (omega (arith, w.loop-done-test.false))
          c.loop-done.invariant.within)
      | then-loop-done-test+then-left-length w ↦ (
        omega (arith, c.loop-done.invariant.month, w.loop-done-test.true),
        omega (arith, few, w.month_length-length.ensures, w.if-left-length.true),
      )
    ]
