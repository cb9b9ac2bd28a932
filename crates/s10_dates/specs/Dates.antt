-- The calendar: the date of a day, counted from 1970-01-01, and its text.
use Rattle.std.specs.Prelude.{ℕ, zero, suc, ◌+◌, ◌%◌, ◌/◌, ◌==◌, nat_lt, Bool, not, ◌&&◌, ◌||◌}
use Rattle.std.specs.Prelude.{if◌then◌else◌, List, [], ◌∷◌, ◌++◌, codes, decimal}
use Rattle.s10_dates.specs.declared.date.Date.{Date}

-- A year is a leap year if 4 divides it, except for those that 100 divides and 400 does not.
unfoldable pub is_leap : ℕ → Bool
is_leap year = (year % 4 == 0) && (not (year % 100 == 0) || (year % 400 == 0))

-- The days of a month, 1 to 12.
abbrev pub month_length : ℕ → ℕ → ℕ
month_length year month =
    if month == 2 then (if is_leap year then 29 else 28)
    else if (month == 4) || (month == 6) || (month == 9) || (month == 11) then 30 else 31

-- The next date: the next day of the month, otherwise the first of the next month, otherwise that of
-- the next year.
unfoldable pub next_date : Date → Date
next_date d =
    if nat_lt d.day (month_length d.year d.month)
    then record { year = d.year; month = d.month; day = d.day + 1 }
    else if nat_lt d.month 12 then record { year = d.year; month = d.month + 1; day = 1 }
    else record { year = d.year + 1; month = 1; day = 1 }

-- Day 0 is 1970-01-01.
abbrev pub first_date : Date
first_date = record { year = 1970; month = 1; day = 1 }

-- The date of a day.
unfoldable pub date_of : ℕ → Date
date_of zero = first_date
date_of (suc day) = next_date (date_of day)

-- A number below 100 in two digits.
abbrev pub two_digits : ℕ → List ℕ
two_digits number = (48 + number / 10) ∷ (48 + number % 10) ∷ []

-- The text of a date, such as 2024-10-31. No year has fewer than four digits, since the first is 1970.
abbrev pub date_text : Date → List ℕ
date_text d = decimal d.year ++ codes "-" ++ two_digits d.month ++ codes "-" ++ two_digits d.day
