use Rattle.std.proofs.Common.{◌≡◌, ◌<◌, ◌≤◌, ◌+◌, ◌-◌}
use Rattle.s10_dates.specs.Dates.{date_of}
use Rattle.s10_dates.specs.Years.{date_after, days_of_years, month_start}
use Rattle.s10_dates.proofs.date.date_of.Given as goal

-- The days that are left begin with this year, and end in its cycle.
abbrev pub invariant-loop-done : goal.invariant-loop-done
invariant-loop-done l =
    record {
      year : l.year ≤ 11800000 + l._done;
      within : l.left < days_of_years l.year (400 - l._done);
      date : date_of l.day ≡ date_after l.left (month_start l.year 1);
    }
