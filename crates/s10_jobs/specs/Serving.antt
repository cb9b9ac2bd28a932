-- The turns of a server on a link, in batches one after another.
use Rattle.std.specs.Prelude.{ℕ, ◌<◌, ◌≤◌, Bool, List, [], ◌∷◌, ◌++◌, length, codes, Option, Result}
use Rattle.std.specs.Prelude.{IfOk}
use Rattle.std.specs.List.{flat_map}
use Rattle.std.specs.Io.KnownBytes.{Appends}
use Rattle.s10_lines.specs.declared.write_fault.WriteFault.{WriteFault}
use Rattle.s10_link.specs.declared.trace.Trace.{Trace}
use Rattle.s10_history.specs.declared.entry.Entry.{Entry}
use Rattle.s10_history.specs.Settings.{Terms}
use Rattle.s10_book.specs.declared.faults.Faults.{Faults}
use Rattle.s10_ends.specs.Turn.{Turn}
use Rattle.s10_ends.specs.Composed.{DatedBatch, BatchesLead, turns_in, days_of, IsBatch}
use Rattle.s10_ends.specs.Composed.{datagrams_in, deliveries_in, answers_in, replies_in, frames_in}
use Rattle.s10_ends.specs.Composed.{Carries, ServesAll, SurvivesStop}
use Rattle.s10_jobs.specs.declared.job_status.JobStatus.{JobStatus}
use Rattle.s10_jobs.specs.declared.job_status.JobStatus.TheVariants.{Done, Refused, CommandLine}
use Rattle.s10_jobs.specs.declared.job_status.JobStatus.TheVariants.{Failed}
use Rattle.s10_jobs.specs.declared.turn_options.TurnOptions.{TurnOptions}
use Rattle.s10_jobs.specs.Days.{AreTaken}
use Rattle.s10_jobs.specs.DayGuard.{guard_of, IsRefusedDay, IsServedDay}
use Rattle.s10_jobs.specs.Ending.{AreEnded}
use Rattle.s10_jobs.specs.TurnLines.{turn_line}

-- The lines of all turns, with their senders or without. If the source gave no day, there are fewer turns than `count`, then the
-- line `clock`.
abbrev pub PrintsTurns : Bool → Option (List ℕ) → Option (List ℕ) → List Turn → ℕ → JobStatus
    → Type 0
PrintsTurns senders held now turns count Done = Appends held now (flat_map (turn_line senders) turns)
PrintsTurns senders held now turns count Refused = ⊥
PrintsTurns senders held now turns count CommandLine = ⊥
PrintsTurns senders held now turns count Failed = (length turns < count)
    × Appends held now (flat_map (turn_line senders) turns ++ codes "clock\n")

-- At most `count` turns, in batches by such steps. Their lines were written unless the writer
-- failed.
pub record Serves {S : Type 0} (IsStep : S → DatedBatch → S → Type 0) (old new : S)
    (senders : Bool) (held now : Option (List ℕ)) (count : ℕ) (result : Result JobStatus WriteFault) :
    Type 0 where
  pub batches : List DatedBatch
  pub lead : BatchesLead IsStep old batches new
  pub few : length (turns_in batches) ≤ count
  pub shows : IfOk result (PrintsTurns senders held now (turns_in batches) count)

-- The day of each batch fits the state in which the batch began.
unfoldable pub DaysFit : {S : Type 0} (IsStep : S → DatedBatch → S → Type 0)
    (Fits : S → ℕ → Type 0) (old new : S) (batches : List DatedBatch)
    → BatchesLead IsStep old batches new → Type 0
unfolding BatchesLead
DaysFit IsStep Fits old new [] lead = Unit {0}
DaysFit IsStep Fits old new (batch ∷ batches) (next, step, rest) = Fits old batch.day
    × DaysFit IsStep Fits next new batches rest

module _ {B : Type 0} (honest : B → Type 0) (terms : B → Terms)
    (history committed : B → List Entry) where
  -- What a server did with all that its link carried. Between the two traces the link received exactly
  -- the datagrams of these batches, and sent exactly the replies to them that their turns name, each to
  -- its sender. If the book is honest after them, they give what one run over all their datagrams
  -- gives.
  pub record ServesLink (old new : Trace × B) : Type 0 where
    pub batches : List DatedBatch
    pub carries : Carries old.0 new.0 (datagrams_in batches) (replies_in batches)
        (frames_in (turns_in batches))
    pub composed : honest new.1 → ServesAll honest terms history committed old.1 new.1
        (deliveries_in batches) (answers_in batches) (turns_in batches)

module _ {B : Type 0} (faults : B → Faults) (honest : B → Type 0) (terms : B → Terms)
    (history committed : B → List Entry) (clean : B → Type 0)
    (may_find : B → Option (List Entry) → Type 0) where
  -- The turns of a server, `count` of them unless a source of ends ends them, in batches on the given
  -- day, or each on the next day that a source gives. A day that the source gave and the guard refuses
  -- is no day: no batch was served on it, and the turns ended. If the book is clean after them and was
  -- honest after some of them, an opening after a stop finds each call whose reply these sent. What
  -- such batches give together is said by `ServesLink`.
  pub record ServesTurns {D E : Type 0} (gives : D → Option ℕ → D → Type 0) (options : TurnOptions)
      (says : E → Bool → E → Type 0) (old new : Trace × B) (before after : D) (begun ended : E)
      (held now : Option (List ℕ)) (result : Result JobStatus WriteFault) : Type 0
    where
      pub serves : Serves (IsBatch faults honest terms history committed clean may_find) old new
          options.senders held now options.count result
      pub days : AreTaken gives (IsRefusedDay honest history (guard_of options) new.1) options.day
          (days_of serves.batches) result before after
      pub guarded : DaysFit (IsBatch faults honest terms history committed clean may_find)
          (λ (s : Trace × B) day. IsServedDay honest history (guard_of options) s.1 day) old new
          serves.batches serves.lead
      pub ends : AreEnded says serves.batches options.count result begun ended
      pub survives : SurvivesStop faults honest terms history committed clean may_find old new
