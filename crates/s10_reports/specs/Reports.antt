-- The reports of a ledger: a heading, then a line or a record for each range, or for each issuance,
-- that a filter admits.
use Rattle.std.specs.Prelude.{ℕ, Bool, true, false, List, [], ◌∷◌, map, filter, codes, decimal}
use Rattle.std.specs.Prelude.{max, Option}
use Rattle.std.specs.List.{flat_map}
use Rattle.s10_core.specs.Letters.{letters_of}
use Rattle.s10_core.specs.Serial.{digits_of}
use Rattle.s10_core.specs.Id.{spelling_of}
use Rattle.s10_lines.specs.Lines.{line_of}
use Rattle.s10_history.specs.declared.entry.Entry.{Entry}
use Rattle.s10_history.specs.declared.range.Range.{Range}
use Rattle.s10_history.specs.declared.usage.Usage.{Usage}
use Rattle.s10_history.specs.declared.issue.Issue.{Issue}
use Rattle.s10_history.specs.declared.issuance.Issuance.{Issuance}
use Rattle.s10_history.specs.History.{day_of, ranges_of, is_closed}
use Rattle.s10_history.specs.Issues.{issues_of, last_issue_of}
use Rattle.s10_history.specs.Usage.{usage_of}
use Rattle.s10_reports.specs.declared.range_filter.RangeFilter.{RangeFilter}
use Rattle.s10_reports.specs.declared.issues_report.IssuesReport.{IssuesReport}
use Rattle.s10_reports.specs.declared.report_format.ReportFormat.{ReportFormat}
use Rattle.s10_reports.specs.declared.report_format.ReportFormat.TheVariants.{Lines, Csv}
use Rattle.s10_reports.specs.Filters.{admits_range, admits_issue, range_with}
use Rattle.s10_reports.specs.Records.{range_record, issue_record}
use Rattle.s10_reports.specs.States.{state_of}

-- The lines as one text.
abbrev pub joined : List (List ℕ) → List ℕ
joined lines = flat_map (λ line. line) lines

-- The word at the end of the line of a closed range.
abbrev pub closed_words : Bool → List (List ℕ)
closed_words true = codes "closed" ∷ []
closed_words false = []

-- The line of a range, with its usage, and whether it is closed.
unfoldable pub range_line : Range → Usage → Bool → List ℕ
range_line r usage closed =
    line_of (decimal r.num)
    (decimal r.holder ∷ letters_of r.service ∷ letters_of r.country ∷ digits_of r.first
    ∷ digits_of r.last
    ∷ decimal usage.used ∷ decimal usage.voided ∷ decimal usage.free ∷ closed_words closed)

-- The header of the report of the ranges.
abbrev pub ranges_header : List ℕ
ranges_header = codes "range customer service country first last used voided free\n"

-- The headings of the records of the ranges.
abbrev pub range_headings : List ℕ
range_headings =
    codes "range,customer,service,country,first,last,used,voided,free,closed,day,date\r\n"

-- The first line of a report of the ranges.
abbrev pub ranges_heading : ReportFormat → List ℕ
ranges_heading Lines = ranges_header
ranges_heading Csv = range_headings

-- The line or the record of a range. Free is counted on this day.
abbrev pub range_text : ReportFormat → Range → Usage → Bool → ℕ → List ℕ
range_text Lines r usage closed day = range_line r usage closed
range_text Csv r usage closed day = range_record r usage closed day

-- The lines of those elements that pass the test.
abbrev pub lines_of : {X : Type 0} → (X → Bool) → (X → List ℕ) → List X → List (List ℕ)
lines_of test line xs = map line (filter test xs)

-- The lines of those ranges that the filter admits, each with its usage on a day.
abbrev pub range_lines : RangeFilter → ReportFormat → List Entry → ℕ → ℕ → List Range
    → List (List ℕ)
range_lines filter format h day interval rs =
    lines_of (admits_range filter)
    (λ r. range_text format r (usage_of h r day interval) (is_closed h r.num) (max (day_of h) day)) rs

-- The report of the ranges that the filter admits, in order of their numbers, on a day.
abbrev pub ranges_report : RangeFilter → ReportFormat → List Entry → ℕ → ℕ → List (List ℕ)
ranges_report filter format h day interval = ranges_heading format
    ∷ range_lines filter format h day interval (ranges_of h)

-- The line of an issuance, with its state.
unfoldable pub issue_line : Issuance → Option Issue → List ℕ
issue_line i last =
    line_of (decimal i.arrival)
    (decimal i.day ∷ decimal i.customer ∷ decimal i.number ∷ spelling_of i.id ∷ state_of i last
    ∷ [])

-- The header of the report of the issuances.
abbrev pub issues_header : List ℕ
issues_header = codes "arrival day customer number identifier state\n"

-- The headings of the records of the issuances.
abbrev pub issue_headings : List ℕ
issue_headings = codes "arrival,day,date,customer,number,identifier,range,state\r\n"

-- The first line of a report of the issuances.
abbrev pub issues_heading : ReportFormat → List ℕ
issues_heading Lines = issues_header
issues_heading Csv = issue_headings

-- The line or the record of an issuance. Its identifier lies in this range.
abbrev pub issue_text : ReportFormat → Issuance → Option Range → Option Issue → List ℕ
issue_text Lines i range last = issue_line i last
issue_text Csv i range last = issue_record i range last

-- The lines of those of these issuances that the filter admits, each with its state in the history.
abbrev pub issue_lines : IssuesReport → List Entry → List Issuance → List (List ℕ)
issue_lines report h is =
    lines_of (λ i. admits_issue report.filter (range_with h i.id) i)
    (λ i. issue_text report.format i (range_with h i.id) (last_issue_of h i.id)) is

-- The report of the issuances that the filter admits, in order of arrival.
abbrev pub issues_report : IssuesReport → List Entry → List (List ℕ)
issues_report report h = issues_heading report.format ∷ issue_lines report h (issues_of h)
