use Rattle.std.proofs.Common.{rules, inl}
use Rattle.s10_reports.specs.ReportFault.{Reported, CountsReport}
use Rattle.s10_jobs.specs.Reporting.{report_lines}
use Rattle.s10_jobs.proofs.EndedReports.{ends_by_book}
use Rattle.s10_jobs.proofs.reporting.write_report.Goals as goal
use Rattle.s10_jobs.proofs.reporting.write_report.Goals.{in-Ranges, in-Issues, in-Info}

pub returns-in_ok-write_faulted-in-Err-Book-clause-written :
    goal.returns-in_ok-write_faulted-in-Err-Book-clause-written
returns-in_ok-write_faulted-in-Err-Book-clause-written g c = λ honest.
    let counts : CountsReport c.match-report.written (g.B.Book.faults c.args.book.now)
    (g.B.Book.faults c.match-report.book) = elim c.match-report.branch [
      | in-Ranges w ↦ search rules
      | in-Issues w ↦ search rules
      | in-Info w ↦ search rules
    ] in
    let reported : Reported (g.W.Write.contents c.args.out.now)
    (g.W.Write.contents c.match-report.out)
    (report_lines c.args.report (g.B.Book.history c.args.book.now)
    (g.B.Book.terms c.args.book.now)) c.match-report.written = elim c.match-report.branch [
      | in-Ranges w ↦ search rules
      | in-Issues w ↦ search rules
      | in-Info w ↦ search rules
    ] in
    inl (ends_by_book c.match-report.written c.in-Err-Book.fault _ _ _
    (g.W.Write.contents c.match-report.out) _ _ (search rules) counts reported (search rules))
