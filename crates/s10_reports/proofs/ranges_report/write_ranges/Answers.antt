use Rattle.std.proofs.Common.{◌≡◌, ◌+◌, [], ◌∷◌, List, Some, sym, ap, ◌∙◌, arith, subst, take}
use Rattle.std.specs.Prelude.{find, is_some, ◌==◌, ⊤, Err}
use Rattle.std.specs.Io.KnownBytes.{Appends}
use Rattle.s10_history.specs.declared.entry.Entry.{Entry}
use Rattle.s10_history.specs.Settings.{Terms}
use Rattle.s10_history.specs.History.{ranges_of}
use Rattle.s10_reports.specs.Reports.{joined, range_lines, ranges_report}
use Rattle.s10_reports.specs.ReportFault.{Reported}
use Rattle.s10_book.proofs.Calls.{Unchanged-trans}
use Rattle.s10_history.proofs.Push.{length-ranges_from}
use Rattle.s10_history.proofs.Numbering.{numbered, Contains-find}
use Rattle.s10_book.proofs.Numbers.{missing_above}
use Rattle.s10_reports.proofs.Reporting.{call_written, ranges_all, ranges_by, ranges_next, report_cut}
use Rattle.s10_reports.proofs.Reporting.{report_whole}
use Rattle.s10_reports.proofs.ranges_report.write_ranges.Goals as goal

pub write_if_admitted-requires : goal.write_if_admitted-requires
write_if_admitted-requires g c = λ h.
    let e : c.in_ok-range.field-0 ≡ find (λ x. x.num == (c.loop-done.done + 1))
    (ranges_of (g.B.Book.history c.loop-done.book)) = c.in_ok-range.ensures.answer h in
    rw (c.range.ensures.unchanged.same_history h) (Contains-find _ _ _ (sym e ∙ c.in-Some.is))

pub returns-in-None-clause-written : goal.returns-in-None-clause-written
returns-in-None-clause-written g c = λ h.
    let h0 = c.range.ensures.unchanged.was_honest h in
    let first = g.B.Book.history c.args.book.now in
    let interval = (g.B.Book.terms c.args.book.now).interval in
    let same : g.B.Book.history c.loop-done.book ≡ first =
    c.loop-done.invariant.unchanged.same_history h0 in
    let is : c.in_ok-range.field-0 ≡ find (λ x. x.num == (c.loop-done.done + 1)) (ranges_of first) =
    c.in_ok-range.ensures.answer h
    ∙ ap (λ (l : List Entry). find (λ x. x.num == (c.loop-done.done + 1)) (ranges_of l)) same in
    let missing = missing_above _ (ranges_of first) c.in_ok-range.field-0 (numbered 1 first) is
    (ap is_some c.in-None.is) (omega arith) in
    report_whole _ _ (ranges_report c.args.filter.now c.args.format first c.args.day interval)
    (ranges_by c.args.filter.now c.args.format first c.args.day interval c.loop-done.done + 1)
    (ranges_all c.args.filter.now c.args.format first c.args.day interval c.loop-done.done
    (omega (arith, missing)))
    (c.loop-done.invariant.written h0)

pub loop-done-preserved : goal.loop-done-preserved
loop-done-preserved g c = record {
  faults = c.in_ok-write_if_admitted.ensures.faults ∙ c.in_ok-range.ensures.faults
      ∙ c.loop-done.invariant.faults;
  unchanged = Unchanged-trans c.loop-done.invariant.unchanged
      (Unchanged-trans c.range.ensures.unchanged c.write_if_admitted.ensures.unchanged);
  written = λ h.
      let h1 = c.write_if_admitted.ensures.unchanged.was_honest h in
      let h0 = c.range.ensures.unchanged.was_honest h1 in
      let first = g.B.Book.history c.args.book.now in
      let terms = g.B.Book.terms c.args.book.now in
      let same : g.B.Book.history c.loop-done.book ≡ first =
      c.loop-done.invariant.unchanged.same_history h0 in
      let e : c.in_ok-range.field-0 ≡ find (λ x. x.num == (c.loop-done.done + 1))
      (ranges_of (g.B.Book.history c.loop-done.book)) = c.in_ok-range.ensures.answer h1 in
      let found : find (λ x. x.num == (c.loop-done.done + 1)) (ranges_of first)
      ≡ Some c.in-Some.range =
      sym (ap (λ (l : List Entry). find (λ x. x.num == (c.loop-done.done + 1)) (ranges_of l)) same)
      ∙ sym e ∙ c.in-Some.is in
      let Lines : List Entry → Terms → Type 0 = λ l t.
      Appends (g.W.Write.contents c.loop-done.out) (g.W.Write.contents c.write_if_admitted.new.out)
      (joined (range_lines c.args.filter.now c.args.format l c.args.day t.interval
      (c.in-Some.range ∷ []))) in
      let lines : Lines first terms =
      subst (λ (t : Terms). Lines first t)
      (c.range.ensures.unchanged.same_terms h1 ∙ c.loop-done.invariant.unchanged.same_terms h0)
      (subst (λ (l : List Entry). Lines l (g.B.Book.terms c.range.new.self))
      (c.range.ensures.unchanged.same_history h1 ∙ same)
      (c.in_ok-write_if_admitted.ensures.written h)) in
      call_written _ _ _
      (take (ranges_by c.args.filter.now c.args.format first c.args.day terms.interval
      c.loop-done.done + 1)
      (ranges_report c.args.filter.now c.args.format first c.args.day terms.interval))
      (range_lines c.args.filter.now c.args.format first c.args.day terms.interval
      (c.in-Some.range ∷ [])) _
      (ranges_next c.args.filter.now c.args.format first c.args.day terms.interval c.loop-done.done
      c.in-Some.range found)
      (c.loop-done.invariant.written h0) lines;
}

pub returns-in_err-write_if_admitted-clause-written :
    goal.returns-in_err-write_if_admitted-clause-written
returns-in_err-write_if_admitted-clause-written g c = λ h.
    let h1 = c.write_if_admitted.ensures.unchanged.was_honest h in
    let h0 = c.range.ensures.unchanged.was_honest h1 in
    let first = g.B.Book.history c.args.book.now in
    let terms = g.B.Book.terms c.args.book.now in
    let same : g.B.Book.history c.loop-done.book ≡ first =
    c.loop-done.invariant.unchanged.same_history h0 in
    let e : c.in_ok-range.field-0 ≡ find (λ x. x.num == (c.loop-done.done + 1))
    (ranges_of (g.B.Book.history c.loop-done.book)) = c.in_ok-range.ensures.answer h1 in
    let found : find (λ x. x.num == (c.loop-done.done + 1)) (ranges_of first)
    ≡ Some c.in-Some.range =
    sym (ap (λ (l : List Entry). find (λ x. x.num == (c.loop-done.done + 1)) (ranges_of l)) same)
    ∙ sym e ∙ c.in-Some.is in
    let Cut : List Entry → Terms → Type 0 = λ l t.
    Reported {T = ⊤} (g.W.Write.contents c.loop-done.out)
    (g.W.Write.contents c.write_if_admitted.new.out)
    (range_lines c.args.filter.now c.args.format l c.args.day t.interval (c.in-Some.range ∷ []))
    (Err c.in_err-write_if_admitted.field-0.0) in
    let cut : Cut first terms =
    subst (λ (t : Terms). Cut first t)
    (c.range.ensures.unchanged.same_terms h1 ∙ c.loop-done.invariant.unchanged.same_terms h0)
    (subst (λ (l : List Entry). Cut l (g.B.Book.terms c.range.new.self))
    (c.range.ensures.unchanged.same_history h1 ∙ same)
    (c.in_err-write_if_admitted.ensures.written h)) in
    report_cut _ _ _
    (ranges_report c.args.filter.now c.args.format first c.args.day terms.interval) _ _ _
    c.in_err-write_if_admitted.field-0.0 c.from_residual-in_err-write_if_admitted.result
    c.from_residual-in_err-write_if_admitted.ensures.1
    (ranges_next c.args.filter.now c.args.format first c.args.day terms.interval c.loop-done.done
    c.in-Some.range found)
    (c.loop-done.invariant.written h0) cut

pub returns-clause-written : goal.returns-clause-written
returns-clause-written g c = λ h.
    let h0 = c.loop-done.invariant.unchanged.was_honest h in
    let first = g.B.Book.history c.args.book.now in
    let interval = (g.B.Book.terms c.args.book.now).interval in
    let few = length-ranges_from 1 first in
    report_whole _ _ (ranges_report c.args.filter.now c.args.format first c.args.day interval)
    (ranges_by c.args.filter.now c.args.format first c.args.day interval c.loop-done.done + 1)
    (ranges_all c.args.filter.now c.args.format first c.args.day interval c.loop-done.done
    (omega (arith, few, c.len-done-end.ensures.answer h0, c.loop-done-test.false)))
    (c.loop-done.invariant.written h)

pub returns-in_err-range-clause-unchanged : goal.returns-in_err-range-clause-unchanged
returns-in_err-range-clause-unchanged g c = Unchanged-trans c.loop-done.invariant.unchanged
    c.range.ensures.unchanged

pub returns-in-None-clause-unchanged : goal.returns-in-None-clause-unchanged
returns-in-None-clause-unchanged g c = Unchanged-trans c.loop-done.invariant.unchanged
    c.range.ensures.unchanged

pub returns-in_err-write_if_admitted-clause-unchanged :
    goal.returns-in_err-write_if_admitted-clause-unchanged
returns-in_err-write_if_admitted-clause-unchanged g c =
    Unchanged-trans c.loop-done.invariant.unchanged
    (Unchanged-trans c.range.ensures.unchanged c.write_if_admitted.ensures.unchanged)

pub returns-clause-unchanged : goal.returns-clause-unchanged
returns-clause-unchanged g c = c.loop-done.invariant.unchanged
