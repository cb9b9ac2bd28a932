-- The job that a subcommand asks for: the option that gives each field.
use Rattle.std.specs.Prelude.{◌≡◌, ℕ, Bool, true, false, List, [], Option, Some, None, codes}
use Rattle.std.specs.Prelude.{option_map, is_some, ◌||◌, ◌⊎◌, ⊤}
use Rattle.clap.specs.Words.{Row, Text, fault_of, subcommand_of}
use Rattle.s10_reports.specs.declared.issue_filter.IssueFilter.{IssueFilter}
use Rattle.s10_jobs.specs.declared.job.Job.{Job}
use Rattle.s10_jobs.specs.declared.job.Job.TheVariants.{Create, Serve, Ask, Notes}
use Rattle.s10_jobs.specs.declared.job.Job.TheVariants.{Again, Report, Audit, Snapshot, Copy, Loop}
use Rattle.s10_jobs.specs.declared.question.Question.{Question}
use Rattle.s10_jobs.specs.declared.look.Look.TheVariants.{Report as ReportOf, Audit as AuditOf}
use Rattle.s10_jobs.specs.declared.report_kind.ReportKind.{ReportKind}
use Rattle.s10_jobs.specs.declared.report_kind.ReportKind.TheVariants.{Ranges, Issues, Info}
use Rattle.s10_jobs.specs.declared.body_words.BodyWords.{BodyWords}
use Rattle.s10_jobs.specs.declared.body_words.BodyWords.TheVariants.{Grant, Draw, DrawMany}
use Rattle.s10_jobs.specs.declared.body_words.BodyWords.TheVariants.{Withdraw, Void, Query}
use Rattle.s10_grammar.specs.Grammar.{grammar}
use Rattle.s10_cli.specs.Options.{Finds, HasText, HasNumber, HasSerial, HasSettings, HasCount}
use Rattle.s10_cli.specs.Options.{HasTries, HasTurnOptions, IsFlag, IsAsker}
use Rattle.s10_cli.specs.Options.{HasFormat, HasIssueFilter, HasRangeFilter}
use Rattle.s10_cli.specs.declared.line_end.LineEnd.{LineEnd}
use Rattle.s10_cli.specs.declared.line_end.LineEnd.TheVariants.{Ended, Asks}

-- The texts of a service and a country.
abbrev pub HasPair : List Row → List ℕ → List ℕ → Type 0
HasPair rows service country = HasText rows (codes "service") service
    × HasText rows (codes "country") country

-- The body that a subcommand asks for.
abbrev pub IsBodyOf : List ℕ → List Row → BodyWords → Type 0
IsBodyOf name rows (Grant holder service country first last) = (name ≡ codes "grant")
    × HasNumber rows (codes "holder") holder × HasPair rows service.now country.now
    × HasSerial rows (codes "first") first × HasSerial rows (codes "last") last
IsBodyOf name rows (Withdraw range) = (name ≡ codes "withdraw")
    × HasNumber rows (codes "range") range
IsBodyOf name rows (Draw service country) = (name ≡ codes "draw")
    × HasPair rows service.now country.now × ((count : ℕ) → ¬ HasCount rows count)
IsBodyOf name rows (DrawMany service country count) = (name ≡ codes "draw")
    × HasPair rows service.now country.now × HasCount rows count
IsBodyOf name rows (Void id) = (name ≡ codes "void") × HasText rows (codes "id") id.now
IsBodyOf name rows (Query id) = (name ≡ codes "query") × HasText rows (codes "id") id.now

-- Whether the post asks: grants and withdrawals are its own.
abbrev pub is_of_the_post : BodyWords → Bool
is_of_the_post (Grant holder service country first last) = true
is_of_the_post (Withdraw range) = true
is_of_the_post (Draw service country) = false
is_of_the_post (DrawMany service country count) = false
is_of_the_post (Void id) = false
is_of_the_post (Query id) = false

-- The request that a subcommand asks for.
abbrev pub IsCallOf : List ℕ → List Row → Question → Type 0
IsCallOf name rows question = HasText rows (codes "to") question.to.now
    × HasTries rows question.tries × IsAsker (is_of_the_post question.body) rows question.asker
    × IsBodyOf name rows question.body

-- A day of issues was given.
abbrev pub has_days : IssueFilter → Bool
has_days filter = is_some filter.from_day || is_some filter.to_day

-- The kind of report that is asked for. `report` is of the issues if its flag or a day of issues was
-- given, otherwise of the ranges. `info` is of the whole ledger.
abbrev pub IsKind : List ℕ → List Row → ReportKind → Type 0
IsKind name rows (Ranges filter format) = (name ≡ codes "report")
    × IsFlag rows (codes "issues") false
    × ((d : ℕ) → ¬ HasNumber rows (codes "from-day") d)
    × ((d : ℕ) → ¬ HasNumber rows (codes "to-day") d)
    × HasRangeFilter rows filter × HasFormat rows format
IsKind name rows (Issues asked) = (name ≡ codes "report")
    × (IsFlag rows (codes "issues") true ⊎ (has_days asked.filter ≡ true))
    × HasIssueFilter rows asked.filter × HasFormat rows asked.format
IsKind name rows Info = name ≡ codes "info"

-- The subcommand with this name and these rows asks for the job.
abbrev pub AsksFor : List ℕ → List Row → Job → Type 0
AsksFor name rows (Create ledger settings) = (name ≡ codes "create") × HasText rows (codes "ledger")
    ledger.now × HasSettings rows settings
AsksFor name rows (Serve ledger bind options until) = (name ≡ codes "serve")
    × HasText rows (codes "ledger") ledger.now
    × HasText rows (codes "bind") bind.now × HasTurnOptions rows options
    × Finds (HasText rows (codes "until")) (option_map (λ path. path.now) until)
AsksFor name rows (Ask question) = IsCallOf name rows question
AsksFor name rows (Notes file customer first lst) = (name ≡ codes "notes")
    × HasText rows (codes "file") file.now × HasNumber rows (codes "customer") customer
    × HasNumber rows (codes "first") first × HasNumber rows (codes "last") lst
AsksFor name rows (Again to notes tries) = (name ≡ codes "again") × HasText rows (codes "to") to.now
    × HasText rows (codes "notes") notes.now × HasTries rows tries
AsksFor name rows (Report ledger kind day) = IsKind name rows kind
    × IsFlag rows (codes "snapshot") false
    × HasText rows (codes "ledger") ledger.now × Finds (HasNumber rows (codes "day")) day
AsksFor name rows (Audit ledger) = (name ≡ codes "audit") × IsFlag rows (codes "snapshot") false
    × HasText rows (codes "ledger") ledger.now
AsksFor name rows (Snapshot ledger (ReportOf kind day)) = IsKind name rows kind
    × IsFlag rows (codes "snapshot") true
    × HasText rows (codes "ledger") ledger.now × Finds (HasNumber rows (codes "day")) day
AsksFor name rows (Snapshot ledger AuditOf) = (name ≡ codes "audit")
    × IsFlag rows (codes "snapshot") true × HasText rows (codes "ledger") ledger.now
AsksFor name rows (Copy ledger to) = (name ≡ codes "copy")
    × HasText rows (codes "ledger") ledger.now × HasText rows (codes "to") to.now
AsksFor name rows (Loop day) = (name ≡ codes "loop") × Finds (HasNumber rows (codes "day")) day

-- The subcommand that was named asks for the job.
abbrev pub IsNamedJob : Option (Text × List Row) → Job → Type 0
IsNamedJob None job = ⊥
IsNamedJob (Some named) job = AsksFor named.0 named.1 job

-- The words are a command line without a fault, and name a subcommand that asks for the job.
pub record AsksInWords (words : List Text) (job : Job) : Type 0 where
  pub faultless : fault_of grammar words ≡ []
  pub name : Text
  pub rows : List Row
  pub named : subcommand_of grammar words ≡ Some (name, rows)
  pub asks : AsksFor name rows job

-- A command line that asks the program for a job has the job that its words ask for.
abbrev pub AsksByWords : List Text → LineEnd → Type 0
AsksByWords words (Ended status) = ⊤
AsksByWords words (Asks job) = AsksInWords words job

-- A command line that was parsed asks for a job, or is a fault since it asks for none.
abbrev pub AsksOrFails : Option (Text × List Row) → LineEnd → Type 0
AsksOrFails named (Asks job) = IsNamedJob named job
AsksOrFails named (Ended status) = (status ≡ 2) × ((job : Job) → ¬ IsNamedJob named job)

-- The exit status of a command line that ended.
abbrev pub status_in : LineEnd → Option ℕ
status_in (Ended status) = Some status
status_in (Asks job) = None
