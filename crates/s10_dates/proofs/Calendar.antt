-- The calendar by months, by years and by cycles of 400 years.
use Rattle.std.proofs.Common.{◌≡◌, ℕ, zero, suc, ◌+◌, ◌*◌, ◌-◌, ◌<◌, ◌≤◌, Bool, true, false, cond, refl}
use Rattle.std.proofs.Common.{sym, ap, ◌∙◌, arith, subst, eqb, ◌||◌}
use Rattle.std.specs.Prelude.{◌%◌}
use Rattle.std.proofs.lemmas.Bool.{lt-ltb, le-ltb}
use Rattle.std.proofs.Math.Nat.{add-mul-mod_self_right}
use Rattle.s10_dates.specs.declared.date.Date.{Date}
use Rattle.s10_dates.specs.Dates.{is_leap, month_length, next_date, date_of, first_date}
use Rattle.s10_dates.specs.Years.{date_after, days_of_months, days_of_years, month_start, year_length}

-- Days after days.
pub after_more : (more days : ℕ) (d : Date) → date_after (more + days) d
    ≡ date_after more (date_after days d)
unfolding date_after
after_more zero days d = let same : 0 + days ≡ days = omega arith in
    ap (λ (n : ℕ). date_after n d) same
after_more (suc more) days d = let on : suc more + days ≡ suc (more + days) = omega arith in
    ap (λ (n : ℕ). date_after n d) on ∙ ap next_date (after_more more days d)

-- The date of a day is that many days after the first.
pub date_is : (day : ℕ) → date_of day ≡ date_after day first_date
unfolding date_of date_after
date_is zero = refl
date_is (suc day) = ap next_date (date_is day)

-- The three cases of the next date.
next_day : (d : Date) → d.day < month_length d.year d.month
    → next_date d ≡ record { year = d.year; month = d.month; day = d.day + 1 }
unfolding next_date
next_day d within = rw (lt-ltb d.day (month_length d.year d.month) within) refl

next_month : (d : Date) → month_length d.year d.month ≤ d.day → d.month < 12
    → next_date d ≡ month_start d.year (d.month + 1)
unfolding next_date
next_month d past within = rw (
  le-ltb d.day (month_length d.year d.month) past,
  lt-ltb d.month 12 within,
) refl

next_year : (d : Date) → month_length d.year d.month ≤ d.day → 12 ≤ d.month
    → next_date d ≡ month_start (d.year + 1) 1
unfolding next_date
next_year d past beyond = rw (
  le-ltb d.day (month_length d.year d.month) past,
  le-ltb d.month 12 beyond,
) refl

-- The dates of a month.
pub within_month : (days year month : ℕ) → days < month_length year month
    → date_after days (month_start year month)
    ≡ record { year = year; month = month; day = 1 + days }
unfolding date_after
within_month zero year month within = refl
within_month (suc days) year month within =
    let before = within_month days year month (omega (arith, within)) in
    let on : 1 + days + 1 ≡ 1 + suc days = omega arith in
    ap next_date before
    ∙ next_day (record { year = year; month = month; day = 1 + days }) (omega (arith, within))
    ∙ ap (λ (n : ℕ). record { year = year; month = month; day = n }) on

february : (b : Bool) → 1 ≤ cond b 29 28
february true = omega arith
february false = omega arith

other_months : (b c : Bool) (n : ℕ) → 1 ≤ n → 1 ≤ cond b n (cond c 30 31)
other_months true c n few = few
other_months false true n few = omega arith
other_months false false n few = omega arith

month_positive : (year month : ℕ) → 1 ≤ month_length year month
month_positive year month =
    other_months (eqb month 2)
    (eqb month 4 || eqb month 6 || eqb month 9 || eqb month 11) (cond (is_leap year) 29 28)
    (february (is_leap year))

february_few : (b : Bool) → cond b 29 28 ≤ 31
february_few true = omega arith
february_few false = omega arith

few_by : (b c : Bool) (n : ℕ) → n ≤ 31 → cond b n (cond c 30 31) ≤ 31
few_by true c n few = few
few_by false true n few = omega arith
few_by false false n few = omega arith

-- No month has more than 31 days.
pub month_few : (year month : ℕ) → month_length year month ≤ 31
month_few year month =
    few_by (eqb month 2) (eqb month 4 || eqb month 6 || eqb month 9 || eqb month 11)
    (cond (is_leap year) 29 28) (february_few (is_leap year))

-- A month ends with the first of the next one.
last_of : (year month : ℕ) → (last : ℕ) × (month_length year month ≡ suc last)
last_of year month = go (month_length year month) refl (month_positive year month)
  where
    go : (n : ℕ) → month_length year month ≡ n → 1 ≤ n → (last : ℕ) × (month_length year month
        ≡ suc last)
    go zero is few = absurd (omega (arith, few))
    go (suc last) is few = (last, is)

pub month_over : (year month : ℕ) → month < 12
    → date_after (month_length year month) (month_start year month) ≡ month_start year (month + 1)
unfolding date_after
month_over year month within =
    let found = last_of year month in
    ap (λ (n : ℕ). date_after n (month_start year month)) found.1
    ∙ ap next_date (within_month found.0 year month (omega (arith, found.1)))
    ∙ next_month (record { year = year; month = month; day = 1 + found.0 })
    (omega (arith, found.1)) within

year_over_in : (year month : ℕ) → 12 ≤ month
    → date_after (month_length year month) (month_start year month) ≡ month_start (year + 1) 1
unfolding date_after
year_over_in year month beyond =
    let found = last_of year month in
    ap (λ (n : ℕ). date_after n (month_start year month)) found.1
    ∙ ap next_date (within_month found.0 year month (omega (arith, found.1)))
    ∙ next_year (record { year = year; month = month; day = 1 + found.0 })
    (omega (arith, found.1)) beyond

-- The months of a year end with the first day of the next year.
months_over : (count year month : ℕ) → month + suc count ≡ 13
    → date_after (days_of_months year month (suc count)) (month_start year month)
    ≡ month_start (year + 1) 1
unfolding days_of_months
months_over zero year month all =
    let none : month_length year month + 0 ≡ month_length year month = omega arith in
    ap (λ (n : ℕ). date_after n (month_start year month)) none
    ∙ year_over_in year month (omega (arith, all))
months_over (suc count) year month all =
    let rest = days_of_months year (month + 1) (suc count) in
    let turned : month_length year month + rest ≡ rest + month_length year month = omega arith in
    ap (λ (n : ℕ). date_after n (month_start year month)) turned
    ∙ after_more rest (month_length year month) (month_start year month)
    ∙ ap (date_after rest) (month_over year month (omega (arith, all)))
    ∙ months_over count year (month + 1) (omega (arith, all))

-- A year has the days of its twelve months.
months_by : (b : Bool) → cond b 366 365 ≡ 31 + (cond b 29 28 + 306)
months_by true = refl
months_by false = refl

pub year_is : (year : ℕ) → year_length year ≡ days_of_months year 1 12
unfolding days_of_months
year_is year = months_by (is_leap year)

year_over : (year : ℕ) → date_after (year_length year) (month_start year 1)
    ≡ month_start (year + 1) 1
year_over year = ap (λ (n : ℕ). date_after n (month_start year 1)) (year_is year)
    ∙ months_over 11 year 1 refl

-- Years end with the first day of a year.
pub years_over : (count year : ℕ) → date_after (days_of_years year count) (month_start year 1)
    ≡ month_start (year + count) 1
unfolding days_of_years date_after
years_over zero year = let same : year ≡ year + 0 = omega arith in
    ap (λ (y : ℕ). month_start y 1) same
years_over (suc count) year =
    let rest = days_of_years (year + 1) count in
    let turned : year_length year + rest ≡ rest + year_length year = omega arith in
    let same : year + 1 + count ≡ year + suc count = omega arith in
    ap (λ (n : ℕ). date_after n (month_start year 1)) turned
    ∙ after_more rest (year_length year) (month_start year 1)
    ∙ ap (date_after rest) (year_over year) ∙ years_over count (year + 1)
    ∙ ap (λ (y : ℕ). month_start y 1) same

-- Leap years come again after 400 years.
again : (year by times : ℕ) → times * by ≡ 400 → (year + 400) % by ≡ year % by
again year by times is = ap (λ (n : ℕ). (year + n) % by) (sym is)
    ∙ add-mul-mod_self_right year times by

leap_again : (year : ℕ) → is_leap (year + 400) ≡ is_leap year
unfolding is_leap
leap_again year = rw (again year 4 100 refl, again year 100 4 refl, again year 400 1 refl) refl

years_again : (count year : ℕ) → days_of_years (year + 400) count ≡ days_of_years year count
unfolding days_of_years
years_again zero year = refl
years_again (suc count) year =
    let turned : year + 400 + 1 ≡ year + 1 + 400 = omega arith in
    let rest : days_of_years (year + 400 + 1) count ≡ days_of_years (year + 1) count =
    ap (λ (y : ℕ). days_of_years y count) turned ∙ years_again count (year + 1) in
    ap (λ (b : Bool). cond b 366 365 + days_of_years (year + 400 + 1) count) (leap_again year)
    ∙ ap (λ (n : ℕ). year_length year + n) rest

-- Any cycle from a year of the first one has 146097 days.
pub cycle_days : (cycles : ℕ) → days_of_years (1970 + 400 * cycles) 400 ≡ 146097
unfolding days_of_years is_leap
cycle_days zero = refl
cycle_days (suc cycles) =
    let next : 1970 + 400 * suc cycles ≡ 1970 + 400 * cycles + 400 = omega arith in
    ap (λ (y : ℕ). days_of_years y 400) next ∙ years_again 400 (1970 + 400 * cycles)
    ∙ cycle_days cycles

-- The first day of a cycle.
pub cycle_start : (cycles : ℕ) → date_after (146097 * cycles) first_date
    ≡ month_start (1970 + 400 * cycles) 1
unfolding date_after
cycle_start zero = refl
cycle_start (suc cycles) =
    let more : 146097 * suc cycles ≡ 146097 + 146097 * cycles = omega arith in
    let next : 1970 + 400 * cycles + 400 ≡ 1970 + 400 * suc cycles = omega arith in
    ap (λ (n : ℕ). date_after n first_date) more
    ∙ after_more 146097 (146097 * cycles) first_date
    ∙ ap (date_after 146097) (cycle_start cycles)
    ∙ ap (λ (n : ℕ). date_after n (month_start (1970 + 400 * cycles) 1)) (sym (cycle_days cycles))
    ∙ years_over 400 (1970 + 400 * cycles)
    ∙ ap (λ (y : ℕ). month_start y 1) next

months_more : (year month count : ℕ) → days_of_months year month (suc count)
    ≡ month_length year month + days_of_months year (month + 1) count
unfolding days_of_months
months_more year month count = refl

is_left : (month count next : ℕ) → next ≡ suc count → month + next ≡ 13 → month + count ≡ 12
is_left month count next is all = omega (arith, is, all)

not_last : (count year month days : ℕ)
    → days < month_length year month + days_of_months year (month + 1) count
    → month_length year month ≤ days → month + count ≡ 12 → month < 12
unfolding days_of_months
not_last zero year month days more past left = absurd (omega (arith, more, past))
not_last (suc count) year month days more past left = omega (arith, left)

-- The days that are left after a month.
pub month_step : (year month days count next : ℕ) → next ≡ suc count → month + next ≡ 13
    → month_length year month ≤ days → days < days_of_months year month next
    → (days - month_length year month < days_of_months year (month + 1) count)
    × (date_after days (month_start year month)
    ≡ date_after (days - month_length year month) (month_start year (month + 1)))
month_step year month days count next is all past within =
    let more : days < month_length year month + days_of_months year (month + 1) count =
    subst (λ (n : ℕ). days < n) (ap (days_of_months year month) is ∙ months_more year month count)
    within in
    let left = days - month_length year month in
    let parts : days ≡ left + month_length year month = omega (arith, past) in (
      omega (arith, more, past),
      ap (λ (n : ℕ). date_after n (month_start year month)) parts
          ∙ after_more left (month_length year month) (month_start year month)
          ∙ ap (date_after left) (month_over year month (not_last count year month days more past
          (is_left month count next is all))),
    )

-- No days are left after the last month.
pub no_month : (year month days count : ℕ) → count ≡ 0 → ¬ (days < days_of_months year month count)
unfolding days_of_months
no_month year month days count is within =
    let none : days < 0 = subst (λ (n : ℕ). days < days_of_months year month n) is within in
    omega (arith, none)

-- The days that are left after a year.
pub year_step : (year days count next : ℕ) → next ≡ suc count → year_length year ≤ days
    → days < days_of_years year next
    → (days - year_length year < days_of_years (year + 1) count)
    × (date_after days (month_start year 1)
    ≡ date_after (days - year_length year) (month_start (year + 1) 1))
unfolding days_of_years
year_step year days count next is past within =
    let more : days < year_length year + days_of_years (year + 1) count =
    subst (λ (n : ℕ). days < days_of_years year n) is within in
    let left = days - year_length year in
    let parts : days ≡ left + year_length year = omega (arith, past) in (
      omega (arith, more, past),
      ap (λ (n : ℕ). date_after n (month_start year 1)) parts
          ∙ after_more left (year_length year) (month_start year 1)
          ∙ ap (date_after left) (year_over year),
    )

-- No days are left after the last year.
pub no_year : (year days count : ℕ) → count ≡ 0 → ¬ (days < days_of_years year count)
unfolding days_of_years
no_year year days count is within =
    let none : days < 0 = subst (λ (n : ℕ). days < days_of_years year n) is within in
    omega (arith, none)

-- The date of a day, from the first day of its cycle.
pub cycle_date : (day cycles rest : ℕ) → day ≡ rest + 146097 * cycles
    → date_of day ≡ date_after rest (month_start (1970 + 400 * cycles) 1)
cycle_date day cycles rest is =
    date_is day ∙ ap (λ (n : ℕ). date_after n first_date) is
    ∙ after_more rest (146097 * cycles) first_date ∙ ap (date_after rest) (cycle_start cycles)

-- The date in a month, after the days before it.
pub month_date : (year month days : ℕ) → days < month_length year month
    → record { year = year; month = month; day = days + 1 }
    ≡ date_after days (month_start year month)
month_date year month days within =
    let turned : days + 1 ≡ 1 + days = omega arith in
    ap (λ (n : ℕ). record { year = year; month = month; day = n }) turned
    ∙ sym (within_month days year month within)
