use Rattle.std.proofs.Common.{◌∙◌, [], ◌∷◌, List, arith, length, sym, subst, take}
use Rattle.std.specs.Prelude.{⊤, Err}
use Rattle.std.specs.Io.KnownBytes.{Appends}
use Rattle.s10_history.specs.declared.entry.Entry.{Entry}
use Rattle.s10_history.specs.Issues.{issues_at}
use Rattle.s10_book.proofs.Calls.{Unchanged-trans}
use Rattle.s10_reports.specs.Reports.{issue_lines, joined}
use Rattle.s10_reports.specs.ReportFault.{Reported}
use Rattle.s10_history.proofs.Numbering.{past_end}
use Rattle.s10_reports.proofs.Reporting.{call_whole, call_written, issue_next, issued_all}
use Rattle.s10_reports.proofs.Reporting.{report_cut, report_whole}
use Rattle.s10_reports.proofs.issues_report.write_call.Goals as goal

pub loop-place-preserved : goal.loop-place-preserved
loop-place-preserved g c = record {
  faults = c.in_ok-write_if_admitted.ensures.faults ∙ c.loop-place.invariant.faults;
  unchanged = Unchanged-trans c.loop-place.invariant.unchanged
      c.write_if_admitted.ensures.unchanged;
  written = λ h.
      let h0 = c.write_if_admitted.ensures.unchanged.was_honest h in
      let first = g.B.Book.history c.args.book.now in
      let report = c.args.report.now in
      let is = issues_at c.args.arrival c.args.entry.now in
      let i = c.in-Some.issuance in
      let line = subst (λ (l : List Entry). Appends (g.W.Write.contents c.loop-place.out)
      (g.W.Write.contents c.write_if_admitted.new.out) (joined (issue_lines report l (i ∷ []))))
      (c.loop-place.invariant.unchanged.same_history h0)
      (c.in_ok-write_if_admitted.ensures.written h) in
      call_written _ _ _
      (take (length (issue_lines report first (take c.loop-place.place is)))
      (issue_lines report first is))
      (issue_lines report first (i ∷ [])) _
      (issue_next report first is c.loop-place.place i (sym c.issue.ensures ∙ c.in-Some.is))
      (c.loop-place.invariant.written h0) line;
}

pub returns-in-None-clause-written : goal.returns-in-None-clause-written
returns-in-None-clause-written g c = λ h.
    let report = c.args.report.now in
    let first = g.B.Book.history c.args.book.now in
    let is = issues_at c.args.arrival c.args.entry.now in
    report_whole _ _ (issue_lines report first is)
    (length (issue_lines report first (take c.loop-place.place is)))
    (call_whole report first is c.loop-place.place
    (past_end is c.loop-place.place (sym c.issue.ensures ∙ c.in-None.is)))
    (c.loop-place.invariant.written h)

pub returns-in_err-write_if_admitted-clause-written :
    goal.returns-in_err-write_if_admitted-clause-written
returns-in_err-write_if_admitted-clause-written g c = λ h.
    let h0 = c.write_if_admitted.ensures.unchanged.was_honest h in
    let first = g.B.Book.history c.args.book.now in
    let report = c.args.report.now in
    let is = issues_at c.args.arrival c.args.entry.now in
    let i = c.in-Some.issuance in
    let cut = subst (λ (l : List Entry). Reported {T = ⊤} (g.W.Write.contents c.loop-place.out)
    (g.W.Write.contents c.write_if_admitted.new.out) (issue_lines report l (i ∷ []))
    (Err c.in_err-write_if_admitted.field-0.0))
    (c.loop-place.invariant.unchanged.same_history h0)
    (c.in_err-write_if_admitted.ensures.written h) in
    report_cut _ _ _ (issue_lines report first is) _ _ _ c.in_err-write_if_admitted.field-0.0
    c.from_residual.result
    c.from_residual.ensures.1
    (issue_next report first is c.loop-place.place i (sym c.issue.ensures ∙ c.in-Some.is))
    (c.loop-place.invariant.written h0) cut

pub returns-clause-written : goal.returns-clause-written
returns-clause-written g c = λ h.
    let report = c.args.report.now in
    let first = g.B.Book.history c.args.book.now in
    let e = c.args.entry.now in
    let is = issues_at c.args.arrival e in
    report_whole _ _ (issue_lines report first is)
    (length (issue_lines report first (take c.loop-place.place is)))
    (call_whole report first is c.loop-place.place (omega (
      arith,
      issued_all c.args.arrival e,
      c.issued-place-end.ensures,
      c.loop-place-test.false,
    )))
    (c.loop-place.invariant.written h)

pub returns-in-None-clause-unchanged : goal.returns-in-None-clause-unchanged
returns-in-None-clause-unchanged g c = c.loop-place.invariant.unchanged

pub returns-in_err-write_if_admitted-clause-unchanged :
    goal.returns-in_err-write_if_admitted-clause-unchanged
returns-in_err-write_if_admitted-clause-unchanged g c =
    Unchanged-trans c.loop-place.invariant.unchanged c.write_if_admitted.ensures.unchanged

pub returns-clause-unchanged : goal.returns-clause-unchanged
returns-clause-unchanged g c = c.loop-place.invariant.unchanged
