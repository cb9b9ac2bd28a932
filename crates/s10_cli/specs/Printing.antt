-- What `check`, `make`, `show` and `replay` print, and how they end.
use Rattle.std.specs.Prelude.{◌≡◌, ℕ, List, [], Option, Some, None, Result, IfOk, IfSome}
use Rattle.std.specs.Io.KnownBytes.{Appends}
use Rattle.s10_lines.specs.declared.write_fault.WriteFault.{WriteFault}
use Rattle.s10_history.specs.declared.entry.Entry.{Entry}
use Rattle.s10_history.specs.Settings.{Terms}
use Rattle.s10_jobs.specs.declared.input_fault.InputFault.{InputFault}
use Rattle.s10_jobs.specs.declared.job_status.JobStatus.{JobStatus}
use Rattle.s10_jobs.specs.declared.line_job.LineJob.{LineJob}
use Rattle.s10_jobs.specs.declared.line_job.LineJob.TheVariants.{Make}
use Rattle.s10_jobs.specs.EachLine.{IsPrinted, EachPrinted, ReportsEach}
use Rattle.s10_jobs.specs.Lines.{IsMade}
use Rattle.s10_jobs.specs.Replay.{Replayed, ReportsReplay}
use Rattle.s10_jobs.specs.Shown.{Prints}
use Rattle.s10_cli.specs.declared.parts.Parts.{Parts}

-- `old` and `new` are the contents of the output before and after a job. `done` is how it ended.
module _ (old new : Option (List ℕ)) (done : Result JobStatus WriteFault) where
  -- The job ended with this status, and printed this line.
  abbrev pub EndsWithLine : JobStatus → List ℕ → Type 0
  EndsWithLine status line = IfOk done (λ ended. (ended ≡ status) × Appends old new line)

  -- `input` and `rest` are what the reader has before and after the job.
  module _ (input rest : Option (List ℕ)) where
    -- The job printed one line, which is right for its status, and read nothing.
    abbrev pub PrintsLine : (JobStatus → List ℕ → Type 0) → Type 0
    PrintsLine IsLine = IfOk done (λ ended. Prints old new (IsLine ended)) × (rest ≡ input)

    -- The job was done for each line of the input.
    abbrev pub PrintsEachLine : LineJob → Type 0
    PrintsEachLine job = IfSome input (λ bytes. IfSome old (λ held.
        (printed : Result JobStatus InputFault) × (between : Option (List ℕ))
        × EachPrinted job bytes rest held between printed × ReportsEach printed between new done))

    -- The job was done for the text. Without a text it was done for each line of the input.
    abbrev pub PrintsFor : LineJob → Option (List ℕ) → Type 0
    PrintsFor job (Some text) = PrintsLine (IsPrinted job text)
    PrintsFor job None = PrintsEachLine job

    -- The identifier of the parts was made. Without parts that of each line of the input was.
    abbrev pub MakesFor : Option Parts → Type 0
    MakesFor (Some parts) =
        PrintsLine (IsMade parts.service.now parts.serial.now parts.country.now)
    MakesFor None = PrintsEachLine Make

    -- The input was replayed over an empty ledger with these settings.
    abbrev pub Replays : Terms → Type 0
    Replays terms = IfSome input (λ bytes. IfSome old (λ held.
        (after : List Entry) × (replayed : Result ℕ InputFault) × (between : Option (List ℕ))
        × Replayed [] terms bytes rest held between replayed after
        × ReportsReplay replayed between new done))
