-- The lengths of months and years, and the dates after a date.
use Rattle.std.specs.Prelude.{ℕ, zero, suc, ◌+◌, if◌then◌else◌}
use Rattle.s10_dates.specs.declared.date.Date.{Date}
use Rattle.s10_dates.specs.Dates.{is_leap, month_length, next_date}

-- The days of a year.
abbrev pub year_length : ℕ → ℕ
year_length year = if is_leap year then 366 else 365

-- The first day of a month.
abbrev pub month_start : ℕ → ℕ → Date
month_start year month = record { year = year; month = month; day = 1 }

-- The date that is this number of days after another.
unfoldable pub date_after : ℕ → Date → Date
date_after zero d = d
date_after (suc days) d = next_date (date_after days d)

-- The days of this number of months of a year, from this one on.
unfoldable pub days_of_months : ℕ → ℕ → ℕ → ℕ
days_of_months year month zero = 0
days_of_months year month (suc count) =
    month_length year month + days_of_months year (month + 1) count

-- The days of this number of years, from this one on.
unfoldable pub days_of_years : ℕ → ℕ → ℕ
days_of_years year zero = 0
days_of_years year (suc count) = year_length year + days_of_years (year + 1) count
