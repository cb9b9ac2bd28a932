-- The days of turns, and which days that were read a server refuses.
use Rattle.std.specs.Prelude.{ℕ, ◌+◌, ◌<◌, List, length, Option, Some, None}
use Rattle.s10_history.specs.declared.entry.Entry.{Entry}
use Rattle.s10_history.specs.History.{day_of}
use Rattle.s10_jobs.specs.declared.turn_options.TurnOptions.{TurnOptions}
use Rattle.s10_jobs.specs.Days.{IsTaken, IsNoDay}

-- There is a call, and the day is more than `most` days past that of the last one.
abbrev pub IsTooFarAhead : ℕ → List Entry → ℕ → Type 0
IsTooFarAhead most history day = (0 < length history) × (day_of history + most < day)

-- The guard of days that are read. A given day has none.
abbrev pub guard_unless_given : Option ℕ → Option ℕ → Option ℕ
guard_unless_given (Some day) most = None
guard_unless_given None most = most

-- The guard of the days of turns.
abbrev pub guard_of : TurnOptions → Option ℕ
guard_of options = guard_unless_given options.day options.most_days_ahead

module _ {B : Type 0} (honest : B → Type 0) (history : B → List Entry) where
  -- The guard refuses the day: it is too far past the last one of an honest book. Without a guard no
  -- day is refused.
  abbrev pub IsRefusedDay : Option ℕ → B → ℕ → Type 0
  IsRefusedDay None book day = ⊥
  IsRefusedDay (Some most) book day = honest book → IsTooFarAhead most (history book) day

  -- The guard lets the day pass: it is not too far past the last one of an honest book.
  abbrev pub IsServedDay : Option ℕ → B → ℕ → Type 0
  IsServedDay None book day = Unit {0}
  IsServedDay (Some most) book day = honest book → ¬ IsTooFarAhead most (history book) day

  -- The day of the next batch is the given one or the next of the source, and the guard lets it pass.
  -- Or the source gave no day, or one that the guard refuses.
  abbrev pub IsNextDay : {D : Type 0} → (D → Option ℕ → D → Type 0) → TurnOptions → B → Option ℕ → D
      → D → Type 0
  IsNextDay gives options book (Some day) old new = IsTaken gives options.day (Some day) old new
      × IsServedDay (guard_of options) book day
  IsNextDay gives options book None old new = (answer : Option ℕ)
      × IsTaken gives options.day answer old new
      × IsNoDay (IsRefusedDay (guard_of options) book) answer
