use Rattle.std.proofs.Common.{◌≡◌, ◌+◌, List, take, ap, ◌∙◌, subst, arith}
use Rattle.std.specs.Prelude.{⊤, Err}
use Rattle.std.specs.Io.KnownBytes.{Appends}
use Rattle.s10_history.specs.declared.entry.Entry.{Entry}
use Rattle.s10_history.specs.History.{entry_at}
use Rattle.s10_history.specs.Issues.{issues_at}
use Rattle.s10_reports.specs.Reports.{joined, issue_lines, issues_report}
use Rattle.s10_reports.specs.ReportFault.{Reported}
use Rattle.s10_book.proofs.Calls.{Unchanged-trans}
use Rattle.s10_reports.proofs.Reporting.{report_whole, issues_all, call_lines, call_written}
use Rattle.s10_reports.proofs.Reporting.{report_cut, issued_by}
use Rattle.s10_reports.proofs.issues_report.write_issues.Goals as goal

pub returns-in_err-write_call-clause-written : goal.returns-in_err-write_call-clause-written
returns-in_err-write_call-clause-written g c = λ h.
    let h1 = c.write_call.ensures.unchanged.was_honest h in
    let h0 = c.entry.ensures.unchanged.was_honest h1 in
    let first = g.B.Book.history c.args.book.now in
    let e : Entry = c.in-Some.entry in
    let same : g.B.Book.history c.loop-done.book ≡ first =
    c.loop-done.invariant.unchanged.same_history h0 in
    let is : c.in_ok-entry.field-0 ≡ entry_at first (c.loop-done.done + 1) =
    c.in_ok-entry.ensures.answer h1 ∙ ap (λ (l : List Entry). entry_at l (c.loop-done.done + 1))
    same in
    let Cut : List Entry → Type 0 = λ l. Reported {T = ⊤} (g.W.Write.contents c.loop-done.out)
    (g.W.Write.contents c.write_call.new.out)
    (issue_lines c.args.report.now l (issues_at (c.loop-done.done + 1) e)) (Err c.in_err-write_call.field-0.0) in
    let cut : Cut first = subst Cut (c.entry.ensures.unchanged.same_history h1 ∙ same)
    (c.in_err-write_call.ensures.written h) in
    report_cut _ _ _ (issues_report c.args.report.now first) _ _ _ c.in_err-write_call.field-0.0
    c.from_residual-in_err-write_call.result c.from_residual-in_err-write_call.ensures.1
    (call_lines c.args.report.now first c.loop-done.done c.in_ok-entry.field-0 e is c.in-Some.is)
    (c.loop-done.invariant.written h0) cut

pub loop-done-preserved : goal.loop-done-preserved
loop-done-preserved g c = record {
  faults = c.in_ok-write_call.ensures.faults ∙ c.in_ok-entry.ensures.faults
      ∙ c.loop-done.invariant.faults;
  unchanged = Unchanged-trans c.loop-done.invariant.unchanged
      (Unchanged-trans c.entry.ensures.unchanged c.write_call.ensures.unchanged);
  written = λ h.
      let h1 = c.write_call.ensures.unchanged.was_honest h in
      let h0 = c.entry.ensures.unchanged.was_honest h1 in
      let first = g.B.Book.history c.args.book.now in
      let e : Entry = c.in-Some.entry in
      let same : g.B.Book.history c.loop-done.book ≡ first =
      c.loop-done.invariant.unchanged.same_history h0 in
      let is : c.in_ok-entry.field-0 ≡ entry_at first (c.loop-done.done + 1) =
      c.in_ok-entry.ensures.answer h1 ∙ ap (λ (l : List Entry). entry_at l (c.loop-done.done + 1))
      same in
      let lines = subst (λ (l : List Entry). Appends (g.W.Write.contents c.loop-done.out)
      (g.W.Write.contents c.write_call.new.out)
      (joined (issue_lines c.args.report.now l (issues_at (c.loop-done.done + 1) e))))
      (c.entry.ensures.unchanged.same_history h1 ∙ same) (c.in_ok-write_call.ensures.written h) in
      call_written _ _ _ (take (issued_by c.args.report.now first c.loop-done.done + 1) (issues_report c.args.report.now first))
      (issue_lines c.args.report.now first (issues_at (c.loop-done.done + 1) e)) _
      (call_lines c.args.report.now first c.loop-done.done c.in_ok-entry.field-0 e is c.in-Some.is)
      (c.loop-done.invariant.written h0) lines;
}

pub returns-clause-written : goal.returns-clause-written
returns-clause-written g c = λ h.
    let h0 = c.loop-done.invariant.unchanged.was_honest h in
    let first = g.B.Book.history c.args.book.now in
    report_whole _ _ (issues_report c.args.report.now first) (issued_by c.args.report.now first c.loop-done.done + 1)
    (issues_all c.args.report.now first c.loop-done.done (omega (
      arith,
      c.len-done-end.ensures.answer h0,
      c.loop-done-test.false,
    ))) (c.loop-done.invariant.written h)

pub returns-in_err-entry-clause-unchanged : goal.returns-in_err-entry-clause-unchanged
returns-in_err-entry-clause-unchanged g c = Unchanged-trans c.loop-done.invariant.unchanged
    c.entry.ensures.unchanged

pub returns-in-None-clause-unchanged : goal.returns-in-None-clause-unchanged
returns-in-None-clause-unchanged g c = Unchanged-trans c.loop-done.invariant.unchanged
    c.entry.ensures.unchanged

pub returns-in_err-write_call-clause-unchanged : goal.returns-in_err-write_call-clause-unchanged
returns-in_err-write_call-clause-unchanged g c = Unchanged-trans c.loop-done.invariant.unchanged
    (Unchanged-trans c.entry.ensures.unchanged c.write_call.ensures.unchanged)

pub returns-clause-unchanged : goal.returns-clause-unchanged
returns-clause-unchanged g c = c.loop-done.invariant.unchanged
