use Rattle.std.proofs.Common.{◌≡◌, ◌≤◌, ◌+◌, List, sym, ap, ◌∙◌, arith}
use Rattle.std.specs.Prelude.{find, is_some, ◌==◌, Some}
use Rattle.s10_history.specs.declared.entry.Entry.{Entry}
use Rattle.s10_history.specs.Settings.{Terms}
use Rattle.s10_history.specs.History.{ranges_of, is_closed}
use Rattle.s10_history.specs.Usage.{usage_of}
use Rattle.s10_book.proofs.Calls.{Unchanged-trans}
use Rattle.s10_history.proofs.Push.{length-ranges_from}
use Rattle.s10_history.proofs.Numbering.{numbered, Contains-find}
use Rattle.s10_book.proofs.Numbers.{missing_above}
use Rattle.s10_reports.proofs.Tallying.{one_small, tally_all, tally_more}
use Rattle.s10_reports.proofs.info_report.tally_ranges.Goals as goal

pub usage-requires : goal.usage-requires
usage-requires g c = λ h.
    let e : c.in_ok-range.field-0 ≡ find (λ x. x.num == (c.loop-done.done + 1))
    (ranges_of (g.B.Book.history c.loop-done.book)) = c.in_ok-range.ensures.answer h in
    rw (c.range.ensures.unchanged.same_history h) (Contains-find _ _ _ (sym e ∙ c.in-Some.is))

pub returns-in-None-clause-tallied : goal.returns-in-None-clause-tallied
returns-in-None-clause-tallied g c = λ h.
    let h0 = c.range.ensures.unchanged.was_honest h in
    let first = g.B.Book.history c.args.book.now in
    let interval = (g.B.Book.terms c.args.book.now).interval in
    let same : g.B.Book.history c.loop-done.book ≡ first =
    c.loop-done.invariant.unchanged.same_history h0 in
    let is : c.in_ok-range.field-0 ≡ find (λ x. x.num == (c.loop-done.done + 1)) (ranges_of first) =
    c.in_ok-range.ensures.answer h
    ∙ ap (λ (l : List Entry). find (λ x. x.num == (c.loop-done.done + 1)) (ranges_of l)) same in
    let missing = missing_above _ (ranges_of first) c.in_ok-range.field-0 (numbered 1 first) is
    (ap is_some c.in-None.is) (omega arith) in
    tally_all first c.args.day interval c.loop-done.done c.loop-done.tally (omega (arith, missing))
    (c.loop-done.invariant.tallied h0)

pub returns-clause-tallied : goal.returns-clause-tallied
returns-clause-tallied g c = λ h.
    let h0 = c.loop-done.invariant.unchanged.was_honest h in
    let first = g.B.Book.history c.args.book.now in
    let interval = (g.B.Book.terms c.args.book.now).interval in
    let few = length-ranges_from 1 first in
    tally_all first c.args.day interval c.loop-done.done c.loop-done.tally
    (omega (arith, few, c.len-done-end.ensures.answer h0, c.loop-done-test.false))
    (c.loop-done.invariant.tallied h)

pub loop-done-preserved : goal.loop-done-preserved
loop-done-preserved g c =
    let before = c.loop-done.invariant in
    let one : c.one_if.result ≤ 1 = rw c.one_if.ensures (one_small c.in_ok-closed.closed) in
    record {
      faults = c.in_ok-closed.ensures.faults ∙ c.in_ok-usage.ensures.faults
          ∙ c.in_ok-range.ensures.faults ∙ before.faults;
      unchanged = Unchanged-trans before.unchanged
          (Unchanged-trans c.range.ensures.unchanged (Unchanged-trans c.usage.ensures.unchanged
          c.closed.ensures.unchanged));
      ranges = omega (arith, before.ranges);
      closed = omega (arith, before.closed, one);
      used = omega (arith, before.used);
      voided = omega (arith, before.voided);
      free = omega (arith, before.free, c.drawable.type_inv);
      tallied = λ h.
          let h2 = c.closed.ensures.unchanged.was_honest h in
          let h1 = c.usage.ensures.unchanged.was_honest h2 in
          let h0 = c.range.ensures.unchanged.was_honest h1 in
          let first = g.B.Book.history c.args.book.now in
          let terms = g.B.Book.terms c.args.book.now in
          let same : g.B.Book.history c.loop-done.book ≡ first = before.unchanged.same_history h0 in
          let e : c.in_ok-range.field-0 ≡ find (λ x. x.num == (c.loop-done.done + 1))
          (ranges_of (g.B.Book.history c.loop-done.book)) = c.in_ok-range.ensures.answer h1 in
          let found : find (λ x. x.num == (c.loop-done.done + 1)) (ranges_of first)
          ≡ Some c.in-Some.range =
          sym (ap (λ (l : List Entry). find (λ x. x.num == (c.loop-done.done + 1)) (ranges_of l))
          same) ∙ sym e ∙ c.in-Some.is in
          let usage : c.in_ok-usage.usage ≡ usage_of first c.in-Some.range c.args.day terms.interval =
          c.in_ok-usage.ensures.answer h2
          ∙ ap (λ (l : List Entry). usage_of l c.in-Some.range c.args.day
          (g.B.Book.terms c.range.new.self).interval) (c.range.ensures.unchanged.same_history h1
          ∙ same)
          ∙ ap (λ (t : Terms). usage_of first c.in-Some.range c.args.day t.interval)
          (c.range.ensures.unchanged.same_terms h1 ∙ before.unchanged.same_terms h0) in
          let closed : c.in_ok-closed.closed ≡ is_closed first c.in-Some.range.num =
          c.in_ok-closed.ensures.answer h
          ∙ ap (λ (l : List Entry). is_closed l c.in-Some.range.num)
          (c.usage.ensures.unchanged.same_history h2 ∙ c.range.ensures.unchanged.same_history h1
          ∙ same) in
          tally_more first c.args.day terms.interval c.loop-done.done c.one_if.result
          c.drawable.result c.in-Some.range c.in_ok-usage.usage c.in_ok-closed.closed
          c.loop-done.tally found (before.tallied h0) usage closed c.one_if.ensures
          c.drawable.ensures;
    }
