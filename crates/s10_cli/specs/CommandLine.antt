-- What a command line that needs no file or socket prints, and its exit status.
use Rattle.std.specs.Prelude.{◌≡◌, ◌≢◌, ◌⊎◌, ℕ, Bool, List, codes, Option, Some, None, Result, Ok}
use Rattle.std.specs.Prelude.{Err, IfOk, IsSomeAnd}
use Rattle.clap.specs.Words.{Row, Text, kind_of, subcommand_rows_of}
use Rattle.clap.specs.declared.error.kind.ErrorKind.{ErrorKind}
use Rattle.clap.specs.declared.error.kind.ErrorKind.TheVariants.{OutOfMemory, DisplayHelp}
use Rattle.clap.specs.declared.error.kind.ErrorKind.TheVariants.{DisplayVersion}
use Rattle.clap.specs.declared.error.Error.{Error}
use Rattle.clap.specs.declared.parser.matches.ArgMatches.{ArgMatches}
use Rattle.s10_lines.specs.declared.write_fault.WriteFault.{WriteFault}
use Rattle.s10_history.specs.Settings.{Terms}
use Rattle.s10_jobs.specs.declared.job_status.JobStatus.{JobStatus}
use Rattle.s10_jobs.specs.declared.job_status.JobStatus.TheVariants.{Done, Refused, CommandLine}
use Rattle.s10_jobs.specs.declared.job_status.JobStatus.TheVariants.{Failed}
use Rattle.s10_grammar.specs.Grammar.{Parses}
use Rattle.s10_jobs.specs.declared.line_job.LineJob.TheVariants.{Check, Show}
use Rattle.s10_jobs.specs.declared.job.Job.{Job}
use Rattle.s10_cli.specs.Jobs.{IsNamedJob}
use Rattle.s10_cli.specs.Options.{Finds, HasParts, HasSettings, HasText, IsFlag}
use Rattle.s10_cli.specs.Printing.{EndsWithLine, MakesFor, PrintsFor, Replays}
use Rattle.s10_cli.specs.declared.parts.Parts.{Parts}

-- The exit status of a job. A failed output counts as `Failed`.
abbrev pub exit_status : Result JobStatus WriteFault → ℕ
exit_status (Ok Done) = 0
exit_status (Ok Refused) = 1
exit_status (Ok CommandLine) = 2
exit_status (Ok Failed) = 3
exit_status (Err _) = 3

-- `input` and `rest` are what the reader has before and after. `old` and `new` are the contents of
-- the output. `answer` is how the job ended, if it is one that ends here.
module _ (input rest old new : Option (List ℕ))
    (answer : Option (Result JobStatus WriteFault)) where
  -- A parsed command line has both settings within their limits.
  abbrev pub ReplaysWith : Option Terms → Type 0
  ReplaysWith None = answer ≡ Some (Ok CommandLine)
  ReplaysWith (Some terms) = IsSomeAnd answer (λ done. Replays old new done input rest terms)

  -- The subcommand with this name and these rows was run here, or is left to the program.
  pub record IsDone (name : List ℕ) (rows : List Row) : Type 0 where
    pub check : name ≡ codes "check" → (is_label : Bool) × IsFlag rows (codes "label") is_label
        × (text : Option Text) × Finds (HasText rows (codes "text")) text
        × IsSomeAnd answer (λ done. PrintsFor old new done input rest (Check is_label) text)
    pub make : name ≡ codes "make" → (parts : Option Parts) × Finds (HasParts rows) parts
        × IsSomeAnd answer (λ done. MakesFor old new done input rest parts)
    pub show : name ≡ codes "show" → (text : Option Text) × Finds (HasText rows (codes "hex")) text
        × IsSomeAnd answer (λ done. PrintsFor old new done input rest Show text)
    pub replay : name ≡ codes "replay" → (terms : Option Terms) × Finds (HasSettings rows) terms
        × ReplaysWith terms
    pub left : name ≢ codes "check" → name ≢ codes "make" → name ≢ codes "show"
        → name ≢ codes "replay" → (answer ≡ None) × (new ≡ old)

  -- The same for a subcommand that may not exist.
  abbrev pub IsSubcommandDone : Option (List ℕ × List Row) → Type 0
  IsSubcommandDone None = (answer ≡ None) × (new ≡ old)
  IsSubcommandDone (Some named) = IsDone named.0 named.1

-- Help or the version was printed, or a fault or lack of memory was reported. The status of a fault
-- does not depend on standard error.
pub record IsFaultPrinted (kind : ErrorKind) (old new : Option (List ℕ))
    (done : Result JobStatus WriteFault) : Type 0 where
  pub memory : kind ≡ OutOfMemory → EndsWithLine old new done Failed (codes "memory\n")
  pub help : (kind ≡ DisplayHelp) ⊎ (kind ≡ DisplayVersion) → IfOk done (λ ended. ended ≡ Done)
  pub fault : kind ≢ OutOfMemory → kind ≢ DisplayHelp → kind ≢ DisplayVersion
      → (done ≡ Ok CommandLine) × (new ≡ old)

-- A parsed line ends as its subcommand did. If the subcommand is left to the program, it does not end,
-- unless it asks for no job: then it is a fault of the command line.
abbrev pub EndsLine : Option (Result JobStatus WriteFault) → Option (Text × List Row) → Option ℕ
    → Type 0
EndsLine (Some done) named status = status ≡ Some (exit_status done)
EndsLine None named status = (status ≡ None)
    ⊎ ((status ≡ Some 2) × ((job : Job) → ¬ IsNamedJob named job))

-- What was done for a command line, by the result of its parse.
abbrev pub IsRun : Result ArgMatches Error → Option (List ℕ) → Option (List ℕ) → Option (List ℕ)
    → Option (List ℕ) → Option ℕ → Type 0
IsRun (Ok matches) input rest old new status = (answer : Option (Result JobStatus WriteFault))
    × IsSubcommandDone input rest old new answer (subcommand_rows_of matches)
    × EndsLine answer (subcommand_rows_of matches) status
IsRun (Err error) input rest old new status = (done : Result JobStatus WriteFault)
    × IsFaultPrinted (kind_of error) old new done × (status ≡ Some (exit_status done))

-- What was done for these words.
pub record RunsLine (words : List Text) (input rest old new : Option (List ℕ)) (status : Option ℕ) :
    Type 0 where
  pub parsed : Result ArgMatches Error
  pub parses : Parses words parsed
  pub run : IsRun parsed input rest old new status
