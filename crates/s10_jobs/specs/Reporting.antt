-- What a report prints.
use Rattle.std.specs.Prelude.{◌≡◌, ℕ, ◌⊎◌, List, ◌++◌, take, codes, Option, nat_abs}
use Rattle.std.specs.Io.KnownBytes.{Appends}
use Rattle.s10_lines.specs.Lines.{line_of}
use Rattle.s10_history.specs.declared.entry.Entry.{Entry}
use Rattle.s10_book.specs.declared.book_fault.BookFault.{BookFault}
use Rattle.s10_book.specs.declared.faults.Faults.{Faults}
use Rattle.s10_book.specs.BookFault.{CountsBookFault}
use Rattle.s10_history.specs.Settings.{Terms}
use Rattle.s10_rows.specs.Tables.{head_row}
use Rattle.s10_reports.specs.declared.issues_report.IssuesReport.{IssuesReport}
use Rattle.s10_reports.specs.Reports.{joined, ranges_report, issues_report}
use Rattle.s10_reports.specs.Info.{info_report}
use Rattle.s10_jobs.specs.declared.report_kind.ReportKind.{ReportKind}
use Rattle.s10_jobs.specs.declared.report_kind.ReportKind.TheVariants.{Ranges as OfRanges}
use Rattle.s10_jobs.specs.declared.report_kind.ReportKind.TheVariants.{Issues as OfIssues}
use Rattle.s10_jobs.specs.declared.report_kind.ReportKind.TheVariants.{Info as OfLedger}
use Rattle.s10_jobs.specs.declared.reporting.Report.{Report}
use Rattle.s10_jobs.specs.declared.reporting.Report.TheVariants.{Ranges, Issues, Info}
use Rattle.s10_jobs.specs.declared.job_status.JobStatus.{JobStatus}
use Rattle.s10_jobs.specs.declared.job_status.JobStatus.TheVariants.{Done, Refused, CommandLine}
use Rattle.s10_jobs.specs.declared.job_status.JobStatus.TheVariants.{Failed}
use Rattle.s10_jobs.specs.Words.{book_fault_words}

-- The report of a kind on a day. That of the issues has no day.
abbrev pub report_on : ReportKind → ℕ → Report
report_on (OfRanges filter format) day = Ranges filter format day
report_on (OfIssues asked) day = Issues asked
report_on OfLedger day = Info day

-- The report is one of issues, which needs no day.
abbrev pub IsOfIssues : ReportKind → Type 0
IsOfIssues kind = (asked : IssuesReport) × (kind ≡ OfIssues asked)

-- The lines of a report of a history.
abbrev pub report_lines : Report → List Entry → Terms → List (List ℕ)
report_lines (Ranges filter format day) h t = ranges_report filter format h day t.interval
report_lines (Issues asked) h t = issues_report asked h
report_lines (Info day) h t = info_report (nat_abs (head_row t).schema) h day t

-- The first n lines of the report, then the fault of the book that ended it. The book counted that
-- fault.
abbrev pub EndsByBook : Faults → Faults → Option (List ℕ) → Option (List ℕ) → List (List ℕ) → Type 0
EndsByBook was now old new lines =
    (count : ℕ) × (fault : BookFault) × CountsBookFault fault was now
    × Appends old new (joined (take count lines) ++ line_of (codes "faulted")
    (book_fault_words fault))

-- The writer failed in the report, and the book did not. The writer then accepted the last line.
abbrev pub EndsByWriter : Faults → Faults → Option (List ℕ) → Type 0
EndsByWriter was now new = (now ≡ was)
    × ((before : Option (List ℕ)) × Appends before new (codes "output\n"))

-- The whole report if it is done; otherwise how it ended. The counts of faults are those before and
-- after it.
abbrev pub PrintsReport : Faults → Faults → Option (List ℕ) → Option (List ℕ) → List (List ℕ)
    → JobStatus → Type 0
PrintsReport was now old new lines Done = (now ≡ was) × Appends old new (joined lines)
PrintsReport was now old new lines Refused = ⊥
PrintsReport was now old new lines CommandLine = ⊥
PrintsReport was now old new lines Failed = EndsByBook was now old new lines
    ⊎ EndsByWriter was now new
