-- What a replay writes, and how it ends.
use Rattle.std.specs.Prelude.{◌≡◌, ℕ, List, [], ◌++◌, length, Option, Some, None, Result, Ok, Err}
use Rattle.std.specs.Prelude.{IfOk, ⊤}
use Rattle.std.specs.Io.KnownBytes.{Appends}
use Rattle.s10_history.specs.declared.entry.Entry.{Entry}
use Rattle.s10_history.specs.Settings.{Terms}
use Rattle.s10_lines.specs.declared.write_fault.WriteFault.{WriteFault}
use Rattle.s10_ends.specs.declared.answer.Answer.{Answer}
use Rattle.s10_ends.specs.Served.{Served}
use Rattle.s10_jobs.specs.InputLines.{lines_of, deliveries_in, NoneRefused, IsNoDelivery}
use Rattle.s10_jobs.specs.Stops.{StopsBy}
use Rattle.s10_jobs.specs.AnswerLines.{shown}
use Rattle.s10_jobs.specs.declared.input_fault.InputFault.{InputFault}
use Rattle.s10_jobs.specs.declared.input_fault.InputFault.TheVariants.{Write}
use Rattle.s10_jobs.specs.declared.job_status.JobStatus.{JobStatus}
use Rattle.s10_jobs.specs.declared.job_status.JobStatus.TheVariants.{Done}
use Rattle.s10_jobs.specs.Words.{input_fault_line, input_fault_status}

-- The output now has, after what it held, the lines of answers. These serve exactly the deliveries
-- in the lines, from the history h to the history h'.
pub record Shows (h : List Entry) (t : Terms) (lines : List (List ℕ)) (held now : List ℕ)
    (h' : List Entry) : Type 0 where
  pub answers : List Answer
  pub served : Served h t (deliveries_in lines) answers h'
  pub written : now ≡ held ++ shown answers

-- How a replay of an input's bytes ends, by its result. `left` is what remains of the input.
abbrev pub Ends : List Entry → Terms → List ℕ → Option (List ℕ) → List ℕ → List ℕ
    → Result ℕ InputFault → List Entry → Type 0
Ends h t bytes left held now (Ok count) h' =
    (shows : Shows h t (lines_of bytes) held now h') × NoneRefused IsNoDelivery (lines_of bytes)
    × (count ≡ length shows.answers) × (left ≡ Some [])
Ends h t bytes left held now (Err fault) h' =
    StopsBy IsNoDelivery (λ lines. Shows h t lines held now h') bytes left fault

-- The same if the output's contents are known. Only a failed write may leave them unknown.
abbrev pub Replayed : List Entry → Terms → List ℕ → Option (List ℕ) → List ℕ → Option (List ℕ)
    → Result ℕ InputFault → List Entry → Type 0
Replayed h t bytes left held (Some now) result h' = Ends h t bytes left held now result h'
Replayed h t bytes left held None (Err Write) h' = ⊤
Replayed h t bytes left held None result h' = ⊥

-- The last line says why the reading stopped early.
abbrev pub ReportsFault : InputFault → Option (List ℕ) → Option (List ℕ)
    → Result JobStatus WriteFault → Type 0
ReportsFault fault between new result =
    IfOk result (λ status. (status ≡ input_fault_status fault)
    × Appends between new (input_fault_line fault))

-- A whole replay writes only its answers.
abbrev pub ReportsReplay : Result ℕ InputFault → Option (List ℕ) → Option (List ℕ)
    → Result JobStatus WriteFault → Type 0
ReportsReplay (Ok count) between new result = (result ≡ Ok Done) × (new ≡ between)
ReportsReplay (Err fault) between new result = ReportsFault fault between new result
