-- Sources of days, and the days that are taken from them.
use Rattle.std.specs.Prelude.{◌≡◌, ◌⊎◌, ℕ, List, [], ◌∷◌, ◌++◌, map, All, Option, Some, None}
use Rattle.std.specs.Prelude.{Result, Ok, Err}
use Rattle.s10_lines.specs.declared.write_fault.WriteFault.{WriteFault}
use Rattle.s10_jobs.specs.declared.job_status.JobStatus.{JobStatus}
use Rattle.s10_jobs.specs.declared.job_status.JobStatus.TheVariants.{Done, Refused, CommandLine}
use Rattle.s10_jobs.specs.declared.job_status.JobStatus.TheVariants.{Failed}

-- An answer is no day: there is none, or it is one that is refused.
abbrev pub IsNoDay : (ℕ → Type 0) → Option ℕ → Type 0
IsNoDay IsRefused None = Unit {0}
IsNoDay IsRefused (Some day) = IsRefused day

-- These are the answers for these days, and then one that is no day.
abbrev pub EndInNoDay : (ℕ → Type 0) → List ℕ → List (Option ℕ) → Type 0
EndInNoDay IsRefused days answers = (last : Option ℕ) × IsNoDay IsRefused last
    × (answers ≡ map Some days ++ last ∷ [])

-- Turns on these days took these answers, in order. If the status is `Failed`, the last answer was
-- no day. If the writer failed, it may have been.
abbrev pub AreDaysOf : (ℕ → Type 0) → List ℕ → List (Option ℕ) → Result JobStatus WriteFault → Type 0
AreDaysOf IsRefused days answers (Ok Done) = answers ≡ map Some days
AreDaysOf IsRefused days answers (Ok Refused) = ⊥
AreDaysOf IsRefused days answers (Ok CommandLine) = ⊥
AreDaysOf IsRefused days answers (Ok Failed) = EndInNoDay IsRefused days answers
AreDaysOf IsRefused days answers (Err fault) = (answers ≡ map Some days)
    ⊎ EndInNoDay IsRefused days answers

-- The source gave these answers, one after another.
unfoldable pub Gives : {D A : Type 0} → (D → A → D → Type 0) → D → List A → D → Type 0
Gives gives old [] new = new ≡ old
Gives gives old (answer ∷ answers) new = (next : _) × gives old answer next
    × Gives gives next answers new

module _ {D : Type 0} (gives : D → Option ℕ → D → Type 0) where
  -- One day was taken: the given one, or the next answer of the source if none is given.
  abbrev pub IsTaken : Option ℕ → Option ℕ → D → D → Type 0
  IsTaken (Some day) answer old new = (answer ≡ Some day) × (new ≡ old)
  IsTaken None answer old new = gives old answer new

  -- The days of batches: the given day for each, or the answers of the source, one for each. After
  -- them the source may have given no day, or one that is refused.
  abbrev pub AreTaken : (ℕ → Type 0) → Option ℕ → List ℕ → Result JobStatus WriteFault → D → D
      → Type 0
  AreTaken IsRefused (Some day) days result old new = All (λ d. d ≡ day) days × (new ≡ old)
  AreTaken IsRefused None days result old new = (answers : List (Option ℕ))
      × Gives gives old answers new × AreDaysOf IsRefused days answers result
