use Rattle.std.proofs.Common.{◌≡◌, ◌<◌, ◌+◌, ◌-◌}
use Rattle.s10_dates.specs.Years.{date_after, days_of_months, month_start}
use Rattle.s10_dates.proofs.date.date_in_year.Given as goal

-- The days that are left begin with this month, and end in this year.
abbrev pub invariant-loop-done : goal.invariant-loop-done
invariant-loop-done l =
    record {
      month : l.month ≡ l._done + 1;
      within : l.left < days_of_months l.year l.month (12 - l._done);
      date : date_after l.days (month_start l.year 1) ≡ date_after l.left (month_start l.year
          l.month);
    }
