-- Lemmas about a report that a fault of its book ended.
use Rattle.std.proofs.Common.{◌≡◌, ℕ, List, take, codes, Option, Result, Err, subst}
use Rattle.s10_lines.specs.Lines.{line_of}
use Rattle.s10_lines.proofs.Writing.{Appends-then}
use Rattle.std.specs.Io.KnownBytes.{Appends}
use Rattle.s10_book.specs.declared.book_fault.BookFault.{BookFault}
use Rattle.s10_book.specs.declared.faults.Faults.{Faults}
use Rattle.s10_book.specs.BookFault.{CountsBookFault}
use Rattle.s10_reports.specs.declared.report_fault.ReportFault.{ReportFault}
use Rattle.s10_reports.specs.declared.report_fault.ReportFault.TheVariants.{Book}
use Rattle.s10_reports.specs.ReportFault.{Reported, CountsReport}
use Rattle.s10_reports.specs.Reports.{joined}
use Rattle.s10_jobs.specs.Words.{book_fault_words}
use Rattle.s10_jobs.specs.Reporting.{EndsByBook}

-- The lines before the fault, then the line of the fault.
pub ends_by_book : {T : Type 0} (r : Result T ReportFault) (fault : BookFault) (was now : Faults)
    (old between new : Option (List ℕ)) (lines : List (List ℕ))
    → r ≡ Err (Book fault) → CountsReport r was now → Reported old between lines r
    → Appends between new (line_of (codes "faulted") (book_fault_words fault))
    → EndsByBook was now old new lines
ends_by_book r fault was now old between new lines is counts reported tells =
    let counted : CountsBookFault fault was now = subst (λ x. CountsReport x was now) is counts in
    let told : (count : ℕ) × Appends old between (joined (take count lines)) =
    subst (λ x. Reported old between lines x) is reported in
    (told.0, fault, counted, Appends-then old between new _ _ told.1 tells)
