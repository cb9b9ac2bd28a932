-- How the program ends: its exit status, and what it has done.
use denote.RattleType.{RattleType}
use Rattle.std.specs.Prelude.{◌≡◌, ◌⊎◌, ℕ, List, Option, Some, None, Result, IfSome}
use Rattle.std.specs.Io.KnownBytes.{Keeps}
use Rattle.clap.specs.Words.{Text}
use Rattle.sqlite_disk.specs.declared.start.Start.{Ghosts}
use Rattle.s10_lines.specs.declared.write_fault.WriteFault.{WriteFault}
use Rattle.s10_jobs.specs.declared.job.Job.{Job}
use Rattle.s10_jobs.specs.declared.job_status.JobStatus.{JobStatus}
use Rattle.s10_host.specs.declared.job_resources.JobResources.{JobResources}
use Rattle.s10_host.specs.Files.{ClosedFiles}
use Rattle.s10_host.specs.Ended.{HasEnded}
use Rattle.s10_cli.specs.CommandLine.{RunsLine, exit_status}
use Rattle.s10_cli.specs.Jobs.{AsksInWords}

-- The words were run as a command line that needs no file or socket, with this exit status, or with
-- none if they ask for a job. The output was flushed.
abbrev pub RunsWords : List Text → Option (List ℕ) → Option (List ℕ) → Option (List ℕ) → Option ℕ
    → Type 0
RunsWords words input old new status = (rest : Option (List ℕ)) × (printed : Option (List ℕ))
    × RunsLine words input rest old printed status × Keeps printed new

module _ (S : RattleType) (first : Ghosts S.Denot) {C : Type 0} (gives : C → Option ℕ → C → Type 0)
  where
    -- The job that the words ask for was run, and the exit status is that of its result. The output
    -- was flushed.
    abbrev pub RunsJob : List Text → C → C → Option (List ℕ) → Option (List ℕ) → ℕ
        → JobResources (ClosedFiles S first) → Type 0
    RunsJob words begun ended old new status used =
        (job : Job) × (done : Result JobStatus WriteFault) × (printed : Option (List ℕ))
        × AsksInWords words job
        × HasEnded S first gives job begun ended old printed done used
        × Keeps printed new × (status ≡ exit_status done)
