-- What a job prints for the lines of an input, and how it ends.
use Rattle.std.specs.Prelude.{◌≡◌, ℕ, Bool, true, false, if◌then◌else◌, List, [], ◌++◌, map, All}
use Rattle.std.specs.Prelude.{Option, Some, None, Result, Ok, Err, ⊤}
use Rattle.std.specs.List.{flat_map, list_any}
use Rattle.s10_lines.specs.declared.write_fault.WriteFault.{WriteFault}
use Rattle.s10_jobs.specs.InputLines.{lines_of, without_return, first_word, after_word}
use Rattle.s10_jobs.specs.InputLines.{NoneRefused, IsPastLimits}
use Rattle.s10_jobs.specs.Lines.{IsChecked, IsMade}
use Rattle.s10_jobs.specs.Shown.{IsShownByDigits}
use Rattle.s10_jobs.specs.Stops.{StopsBy}
use Rattle.s10_jobs.specs.Replay.{ReportsFault}
use Rattle.s10_jobs.specs.declared.line_job.LineJob.{LineJob}
use Rattle.s10_jobs.specs.declared.line_job.LineJob.TheVariants.{Check, Make, Show}
use Rattle.s10_jobs.specs.declared.input_fault.InputFault.{InputFault}
use Rattle.s10_jobs.specs.declared.input_fault.InputFault.TheVariants.{Write}
use Rattle.s10_jobs.specs.declared.job_status.JobStatus.{JobStatus}
use Rattle.s10_jobs.specs.declared.job_status.JobStatus.TheVariants.{Done, Refused, CommandLine}
use Rattle.s10_jobs.specs.declared.job_status.JobStatus.TheVariants.{Failed}

-- What a job prints for a text, with its status. `make` reads three parts, with one space between
-- two of them.
abbrev pub IsPrinted : LineJob → List ℕ → JobStatus → List ℕ → Type 0
IsPrinted (Check is_label) text status line = IsChecked is_label text status line
IsPrinted Make text status line = IsMade (first_word text) (first_word (after_word text))
    (after_word (after_word text)) status line
IsPrinted Show text status line = IsShownByDigits text status line

-- The line for a text.
pub record PrintedLine : Type 0 where
  pub text : List ℕ
  pub status : JobStatus
  pub line : List ℕ

-- The output now has, after what it held, one line for each of these lines, in order: what the job
-- prints for its text.
pub record PrintsEach (job : LineJob) (lines : List (List ℕ)) (held now : List ℕ) : Type 0 where
  pub printed : List PrintedLine
  pub texts : map (λ p. p.text) printed ≡ map without_return lines
  pub right : All (λ p. IsPrinted job p.text p.status p.line) printed
  pub written : now ≡ held ++ flat_map (λ p. p.line) printed

-- The status of a refusal.
abbrev pub is_refusal : JobStatus → Bool
is_refusal Done = false
is_refusal Refused = true
is_refusal CommandLine = false
is_refusal Failed = false

-- `Refused` if any of the lines is a refusal.
abbrev pub status_of_all : List PrintedLine → JobStatus
status_of_all printed = if list_any (λ p. is_refusal p.status) printed then Refused else Done

-- How a job ends for the lines of an input, by its result. `left` is what remains of the input.
abbrev pub EndsEach : LineJob → List ℕ → Option (List ℕ) → List ℕ → List ℕ
    → Result JobStatus InputFault → Type 0
EndsEach job bytes left held now (Ok status) =
    (each : PrintsEach job (lines_of bytes) held now)
    × NoneRefused IsPastLimits (lines_of bytes)
    × (status ≡ status_of_all each.printed) × (left ≡ Some [])
EndsEach job bytes left held now (Err fault) =
    StopsBy IsPastLimits (λ lines. PrintsEach job lines held now) bytes left fault

-- The same if the output's contents are known. Only a failed write may leave them unknown.
abbrev pub EachPrinted : LineJob → List ℕ → Option (List ℕ) → List ℕ → Option (List ℕ)
    → Result JobStatus InputFault → Type 0
EachPrinted job bytes left held (Some now) result = EndsEach job bytes left held now result
EachPrinted job bytes left held None (Err Write) = ⊤
EachPrinted job bytes left held None result = ⊥

-- If all lines were read, nothing but their lines is printed.
abbrev pub ReportsEach : Result JobStatus InputFault → Option (List ℕ) → Option (List ℕ)
    → Result JobStatus WriteFault → Type 0
ReportsEach (Ok status) between new result = (result ≡ Ok status) × (new ≡ between)
ReportsEach (Err fault) between new result = ReportsFault fault between new result
