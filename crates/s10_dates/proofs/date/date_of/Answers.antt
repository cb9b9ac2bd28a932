use Rattle.std.proofs.Common.{◌≡◌, ◌∙◌, ◌<◌, ◌+◌, ◌-◌, ◌*◌, sym, arith, subst, ℕ}
use Rattle.std.specs.Prelude.{◌/◌, ◌%◌}
use Rattle.std.proofs.Math.Nat.{mod-add-div}
use Rattle.std.proofs.lemmas.Nat.{mod_below}
use Rattle.s10_dates.specs.Years.{year_length}
use Rattle.s10_dates.proofs.Calendar.{cycle_date, cycle_days, no_year, year_step}
use Rattle.s10_dates.proofs.date.date_of.Goals.{else-loop-done-test, then-loop-done-test+then-left-length}
use Rattle.s10_dates.proofs.date.date_of.Goals as goal

pub loop-done-init : goal.loop-done-init
loop-done-init c =
    let cycles = c.args.day / 146097 in
    let rest = c.args.day % 146097 in
    let parts : rest + 146097 * cycles ≡ c.args.day = mod-add-div c.args.day 146097 in
    let below : rest < 146097 = mod_below c.args.day 146097 (omega arith) in
    record {
      year = omega (arith, parts, c.ranges.day.fits);
      within = subst (λ (n : ℕ). rest < n) (sym (cycle_days cycles)) below;
      date = cycle_date c.args.day cycles rest (sym parts);
    }

pub loop-done-preserved : goal.loop-done-preserved
loop-done-preserved c =
    let i = c.loop-done.invariant in
    let length : c.year_length-length.result ≡ year_length c.loop-done.year =
    c.year_length-length.ensures in
    let step = year_step c.loop-done.year c.loop-done.left (400 - (c.loop-done._done + 1))
    (400 - c.loop-done._done) (omega (arith, c.loop-done-test.true))
    (omega (arith, length, c.if-left-length.false)) i.within in
    rw length (record {
      year = omega (arith, i.year);
      within = step.0;
      date = i.date ∙ step.1;
    })

pub date_in_year-requires : goal.date_in_year-requires
date_in_year-requires c =
    elim c.loop-done-test.branch [
      | else-loop-done-test w ↦ absurd (no_year c.loop-done.year c.loop-done.left
          (400 - c.loop-done._done) (omega (arith, w.loop-done-test.false))
          c.loop-done.invariant.within)
      | then-loop-done-test+then-left-length w ↦
          let length = w.year_length-length.ensures in
          omega (arith, length, w.if-left-length.true)
    ]
