-- What a source of ends answered while turns were served.
use Rattle.std.specs.Prelude.{◌≡◌, ◌⊎◌, ℕ, ◌<◌, Bool, true, false, List, [], ◌∷◌, ◌++◌, length}
use Rattle.std.specs.Prelude.{map, Result, Ok, Err}
use Rattle.s10_lines.specs.declared.write_fault.WriteFault.{WriteFault}
use Rattle.s10_ends.specs.Composed.{DatedBatch, turns_in}
use Rattle.s10_jobs.specs.Days.{Gives}
use Rattle.s10_jobs.specs.declared.job_status.JobStatus.{JobStatus}
use Rattle.s10_jobs.specs.declared.job_status.JobStatus.TheVariants.{Done, Refused, CommandLine}
use Rattle.s10_jobs.specs.declared.job_status.JobStatus.TheVariants.{Failed}

-- The answer no, for each batch.
abbrev pub noes : List DatedBatch → List Bool
noes batches = map (λ batch. false) batches

-- The answers before these batches, in order: no for each. Then the turns reached their count, or the
-- next answer was yes before they did. If no day was given, the last answer was no. If the writer failed,
-- it may have been.
abbrev pub AreEndsOf : List DatedBatch → ℕ → List Bool → Result JobStatus WriteFault → Type 0
AreEndsOf batches count answers (Ok Done) =
    ((length (turns_in batches) ≡ count) × (answers ≡ noes batches))
    ⊎ ((length (turns_in batches) < count) × (answers ≡ noes batches ++ true ∷ []))
AreEndsOf batches count answers (Ok Refused) = ⊥
AreEndsOf batches count answers (Ok CommandLine) = ⊥
AreEndsOf batches count answers (Ok Failed) = answers ≡ noes batches ++ false ∷ []
AreEndsOf batches count answers (Err fault) = (answers ≡ noes batches)
    ⊎ (answers ≡ noes batches ++ false ∷ [])

-- A source of ends was asked before each batch of turns, and ended them exactly if it said so.
abbrev pub AreEnded : {E : Type 0} → (E → Bool → E → Type 0) → List DatedBatch → ℕ
    → Result JobStatus WriteFault → E → E → Type 0
AreEnded says batches count result old new = (answers : List Bool) × Gives says old answers new
    × AreEndsOf batches count answers result
