-- The records of a report, for programs that read tables (RFC 4180). No field has a comma, a quote or
-- the end of a line, so each is written as it is.
use Rattle.std.specs.Prelude.{ℕ, Bool, true, false, List, [], ◌∷◌, ◌++◌, Option, Some, None, codes}
use Rattle.std.specs.Prelude.{decimal}
use Rattle.csv.specs.declared.parser.Terminator.TheVariants.{CRLF}
use Rattle.csv.specs.declared.writer.WriterBuilder.{WriterBuilder}
use Rattle.csv.specs.Writing.{default_writer, with_terminator}
use Rattle.s10_core.specs.Letters.{letters_of}
use Rattle.s10_core.specs.Serial.{digits_of}
use Rattle.s10_core.specs.Id.{spelling_of}
use Rattle.s10_dates.specs.Dates.{date_of, date_text}
use Rattle.s10_history.specs.declared.range.Range.{Range}
use Rattle.s10_history.specs.declared.usage.Usage.{Usage}
use Rattle.s10_history.specs.declared.issue.Issue.{Issue}
use Rattle.s10_history.specs.declared.issuance.Issuance.{Issuance}
use Rattle.s10_reports.specs.States.{state_of}

-- The writer of csv that writes records: its default, with a carriage return and a line feed at the
-- end of a record.
abbrev pub record_writer : WriterBuilder
record_writer = with_terminator default_writer CRLF

-- The fields, with a comma before each.
unfoldable pub after_commas : List (List ℕ) → List ℕ
after_commas [] = []
after_commas (field ∷ fields) = 44 ∷ field ++ after_commas fields

-- The record of a first field and others, with a comma between them, a carriage return and a line
-- feed at the end.
abbrev pub record_of : List ℕ → List (List ℕ) → List ℕ
record_of first fields = first ++ after_commas fields ++ codes "\r\n"

-- Whether a range is closed.
abbrev pub yes_or_no : Bool → List ℕ
yes_or_no true = codes "yes"
yes_or_no false = codes "no"

-- The fields of a day: its number and its date.
abbrev pub day_fields : ℕ → List (List ℕ)
day_fields day = decimal day ∷ date_text (date_of day) ∷ []

-- The record of a range, with its usage, whether it is closed, and the day on which free is counted.
unfoldable pub range_record : Range → Usage → Bool → ℕ → List ℕ
range_record r usage closed day =
    record_of (decimal r.num)
    (decimal r.holder ∷ letters_of r.service ∷ letters_of r.country ∷ digits_of r.first
    ∷ digits_of r.last
    ∷ decimal usage.used ∷ decimal usage.voided ∷ decimal usage.free ∷ yes_or_no closed
    ∷ day_fields day)

-- The number of a range; empty if there is none.
abbrev pub range_number : Option Range → List ℕ
range_number None = []
range_number (Some r) = decimal r.num

-- The record of an issuance, with the range in which its identifier lies, and its state.
unfoldable pub issue_record : Issuance → Option Range → Option Issue → List ℕ
issue_record i range last =
    record_of (decimal i.arrival)
    (day_fields i.day ++ decimal i.customer ∷ decimal i.number ∷ spelling_of i.id ∷ range_number range
    ∷ state_of i last ∷ [])
