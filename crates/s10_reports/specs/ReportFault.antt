-- What a report wrote, and how it changed the fault counts of the book.
use Rattle.std.specs.Prelude.{◌≡◌, ℕ, ⊤, List, take, Option, Result, Ok, Err}
use Rattle.std.specs.Io.KnownBytes.{Appends}
use Rattle.s10_reports.specs.declared.report_fault.ReportFault.{ReportFault}
use Rattle.s10_reports.specs.declared.report_fault.ReportFault.TheVariants.{Book, Write}
use Rattle.s10_book.specs.declared.faults.Faults.{Faults}
use Rattle.s10_book.specs.BookFault.{CountsBookFault}
use Rattle.s10_reports.specs.Reports.{joined}

-- The whole report was written or, after a fault of the book, some number of its first lines.
abbrev pub Reported : {T : Type 0} → Option (List ℕ) → Option (List ℕ) → List (List ℕ)
    → Result T ReportFault → Type 0
Reported old new lines (Ok _) = Appends old new (joined lines)
Reported old new lines (Err (Book fault)) = (count : ℕ)
    × Appends old new (joined (take count lines))
Reported old new lines (Err Write) = ⊤

-- The fault counts are as before, except for a fault of the book.
abbrev pub CountsReport : {T : Type 0} → Result T ReportFault → Faults → Faults → Type 0
CountsReport (Ok _) before after = after ≡ before
CountsReport (Err (Book fault)) before after = CountsBookFault fault before after
CountsReport (Err Write) before after = after ≡ before
