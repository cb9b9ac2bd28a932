-- Defines what each job has done when it ends.
use denote.RattleType.{RattleType}
use Rattle.std.specs.Prelude.{ℕ, is_some, List, Option, Result}
use Rattle.sqlite_disk.specs.declared.start.Start.{Ghosts}
use Rattle.sqlite_wal.specs.Files.{image_at}
use Rattle.s10_lines.specs.declared.write_fault.WriteFault.{WriteFault}
use Rattle.s10_jobs.specs.declared.job.Job.{Job}
use Rattle.s10_jobs.specs.declared.job.Job.TheVariants as job
use Rattle.s10_jobs.specs.declared.job_status.JobStatus.{JobStatus}
use Rattle.s10_host.specs.declared.job_resources.JobResources.{JobResources}
use Rattle.s10_host.specs.Copying.{HasCopied}
use Rattle.s10_host.specs.Files.{ClosedFiles, system_files}
use Rattle.s10_host.specs.Jobs.{HasCreated, HasServed, HasReported, HasAudited, IsRunOn}
use Rattle.s10_host.specs.Asking.{HasAsked}
use Rattle.s10_host.specs.NotesJobs.{HasMadeNotes, HasAskedAgain}
use Rattle.s10_host.specs.Snapshots.{HasLooked}

module _ (S : RattleType) (first : Ghosts S.Denot) where
  -- What a job has done when it ends, by the days that it took, by its result and by its resources.
  abbrev pub HasEnded : {C : Type 0} → (C → Option ℕ → C → Type 0) → Job → C → C
      → Option (List ℕ) → Option (List ℕ) → Result JobStatus WriteFault
      → JobResources (ClosedFiles S first) → Type 0
  HasEnded gives (job.Create ledger settings) begun ended old new result used =
      HasCreated (system_files S first) (image_at first) settings old new result used.files
  HasEnded gives (job.Serve ledger bind options until) begun ended old new result used =
      HasServed (system_files S first) (image_at first) gives bind.now options begun ended
      (is_some until) old new result used.files used.link
  HasEnded gives (job.Ask question) begun ended old new result used =
      HasAsked question.asker question old new result used.link used.notes
  HasEnded gives (job.Notes file customer first lst) begun ended old new result used =
      HasMadeNotes file.now customer first lst old new result used.notes
  HasEnded gives (job.Again to path tries) begun ended old new result used =
      HasAskedAgain to.now path.now tries old new result used.link used.notes
  HasEnded gives (job.Report ledger kind day) begun ended old new result used =
      HasReported (system_files S first) (image_at first) gives kind day begun ended old new result used.files
  HasEnded gives (job.Audit ledger) begun ended old new result used =
      HasAudited (system_files S first) (image_at first) old new result used.files
  HasEnded gives (job.Snapshot ledger look) begun ended old new result used =
      HasLooked gives ledger.now look begun ended old new result used.snapshot
  HasEnded gives (job.Copy ledger to) begun ended old new result used =
      HasCopied ledger.now to.now old new result used.copied
  HasEnded gives (job.Loop day) begun ended old new result used =
      IsRunOn gives day begun ended old new result used.looped
