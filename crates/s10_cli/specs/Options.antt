-- The values of the options of a subcommand, by the rows that a command line gives it.
use Rattle.std.specs.Prelude.{◌≡◌, ◌<◌, ◌≤◌, ◌^◌, ℕ, Bool, true, false, List, [], ◌∷◌, Option}
use Rattle.std.specs.Prelude.{Some, None, codes, MatchOption}
use Rattle.std.specs.Str.Parse.{IsNumeral, digits_value, without_leading_plus}
use Rattle.clap.specs.Words.{Row, all_of, first_of, one_of, found_of, rows_of}
use Rattle.clap.specs.declared.parser.matches.ArgMatches.{ArgMatches}
use Rattle.s10_core.specs.declared.id.Id.{Id}
use Rattle.s10_core.specs.Id.{SpellsLoosely}
use Rattle.s10_core.specs.Serial.{IsSerial}
use Rattle.s10_wire.specs.Ids.{IsCount}
use Rattle.s10_history.specs.Settings.{Terms, AreTerms}
use Rattle.s10_reports.specs.declared.range_filter.RangeFilter.{RangeFilter}
use Rattle.s10_reports.specs.declared.issue_filter.IssueFilter.{IssueFilter}
use Rattle.s10_reports.specs.declared.report_format.ReportFormat.{ReportFormat}
use Rattle.s10_reports.specs.declared.report_format.ReportFormat.TheVariants.{Lines, Csv}
use Rattle.s10_jobs.specs.declared.turn_options.TurnOptions.{TurnOptions}
use Rattle.s10_jobs.specs.declared.asker.Asker.{Asker}
use Rattle.s10_jobs.specs.declared.asker.Asker.TheVariants.{Numbered, Noted}
use Rattle.s10_cli.specs.declared.parts.Parts.{Parts}

-- The rows that were found.
abbrev pub rows_in : ArgMatches → List Row
rows_in found = rows_of (found_of found)

-- The answer is such a value. It is `None` only if there is no such value.
abbrev pub Finds : {T : Type 0} → (T → Type 0) → Option T → Type 0
Finds {T} Is answer = MatchOption answer ((value : T) → ¬ Is value) Is

-- The option was given this text, the first if it was given several times.
unfoldable pub HasText : List Row → List ℕ → List ℕ → Type 0
HasText rows name text = first_of name rows ≡ Some text

-- The three parts of an identifier were given.
unfoldable pub HasParts : List Row → Parts → Type 0
HasParts rows parts = all_of (codes "parts") rows
    ≡ Some (parts.service.now ∷ parts.serial.now ∷ parts.country.now ∷ [])

-- The text is this number in decimal, perhaps after a `+`, and the number fits in 32 bits.
abbrev pub WritesNumber : List ℕ → ℕ → Type 0
WritesNumber text number = IsNumeral 10 (without_leading_plus text)
    × (digits_value 10 (without_leading_plus text) ≡ number) × (number < 2 ^ 32)

-- The option was given this number.
unfoldable pub HasNumber : List Row → List ℕ → ℕ → Type 0
HasNumber rows name number = (text : List ℕ) × (one_of name rows ≡ Some text)
    × WritesNumber text number

-- Whether the flag was given.
unfoldable pub IsFlag : List Row → List ℕ → Bool → Type 0
IsFlag rows name is_given = (one_of name rows ≡ Some (codes "true") → is_given ≡ true)
    × (one_of name rows ≡ Some (codes "false") → is_given ≡ false) × (one_of name rows ≡ None
    → is_given ≡ false)

-- The settings of a ledger, within their limits.
abbrev pub HasSettings : List Row → Terms → Type 0
HasSettings rows terms = HasNumber rows (codes "interval") terms.interval
    × HasNumber rows (codes "limit") terms.limit × AreTerms terms

-- The number of identifiers of a sheet, 1 to 16.
abbrev pub HasCount : List Row → ℕ → Type 0
HasCount rows count = HasNumber rows (codes "count") count × IsCount count

-- The maximum number of tries of a call, 1 to 100.
abbrev pub HasTries : List Row → ℕ → Type 0
HasTries rows tries = HasNumber rows (codes "tries") tries × (1 ≤ tries) × (tries ≤ 100)

-- The options of the turns of a server. Its days may be left out.
abbrev pub HasTurnOptions : List Row → TurnOptions → Type 0
HasTurnOptions rows options = HasNumber rows (codes "count") options.count
    × Finds (HasNumber rows (codes "day")) options.day
    × Finds (HasNumber rows (codes "most-days-ahead")) options.most_days_ahead
    × IsFlag rows (codes "senders") options.senders

-- A serial, 0 to 99999999.
abbrev pub HasSerial : List Row → List ℕ → ℕ → Type 0
HasSerial rows name serial = HasNumber rows name serial × IsSerial serial

-- The customer that asks: the post, or the one that is named.
abbrev pub IsCustomer : Bool → List Row → ℕ → Type 0
IsCustomer true rows customer = customer ≡ 0
IsCustomer false rows customer = HasNumber rows (codes "customer") customer

-- The identifier of an option, as on a label; none if the option was not given.
abbrev pub HasIdentifier : List Row → List ℕ → Option Id → Type 0
HasIdentifier rows name None = (text : List ℕ) → ¬ HasText rows name text
HasIdentifier rows name (Some id) = (text : List ℕ) × HasText rows name text
    × SpellsLoosely text id

-- Which ranges the options select.
abbrev pub HasRangeFilter : List Row → RangeFilter → Type 0
HasRangeFilter rows filter = Finds (HasNumber rows (codes "customer")) filter.customer
    × Finds (HasNumber rows (codes "range")) filter.range
    × HasIdentifier rows (codes "id") filter.id

-- Which issuances the options select.
abbrev pub HasIssueFilter : List Row → IssueFilter → Type 0
HasIssueFilter rows filter = Finds (HasNumber rows (codes "customer")) filter.customer
    × Finds (HasNumber rows (codes "range")) filter.range
    × HasIdentifier rows (codes "id") filter.id
    × Finds (HasNumber rows (codes "from-day")) filter.from_day
    × Finds (HasNumber rows (codes "to-day")) filter.to_day

-- How a report is written: as records if the flag was given.
abbrev pub HasFormat : List Row → ReportFormat → Type 0
HasFormat rows Lines = IsFlag rows (codes "csv") false
HasFormat rows Csv = IsFlag rows (codes "csv") true

-- What gives a request its number: a number and a customer without notes, or notes without either.
abbrev pub IsAsker : Bool → List Row → Asker → Type 0
IsAsker is_post rows (Numbered customer number) = IsCustomer is_post rows customer
    × HasNumber rows (codes "number") number
    × ((notes : List ℕ) → ¬ HasText rows (codes "notes") notes)
IsAsker is_post rows (Noted notes) = HasText rows (codes "notes") notes.now
    × ((number : ℕ) → ¬ HasNumber rows (codes "number") number)
    × ((customer : ℕ) → ¬ HasNumber rows (codes "customer") customer)
