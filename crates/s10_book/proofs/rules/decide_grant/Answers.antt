use Rattle.std.proofs.Common.{rules, ◌≡◌, ◌∙◌, ◌≤◌, ◌+◌, true, false, sym, ap, arith, length}
use Rattle.std.specs.List.{list_any}
use Rattle.s10_wire.specs.declared.outcome.Outcome.TheVariants.{Granted}
use Rattle.s10_history.specs.History.{ranges_of, overlaps}
use Rattle.s10_book.proofs.Granting.{any_is, grant_of_post}
use Rattle.s10_book.proofs.rules.decide_grant.Goals as goal

pub returns-then-is_some-clause-answer : goal.returns-then-is_some-clause-answer
returns-then-is_some-clause-answer g c = λ h.
    let order : c.args.first ≤ c.args.last = omega (
      arith,
      c.if-value.false,
      c.value.ensures.value,
      c.value-else-holder-eq0.ensures.value,
    ) in
    let any : list_any (overlaps c.args.service c.args.country c.args.first c.args.last)
    (ranges_of (g.B.Book.history c.args.book.now)) ≡ true =
    any_is (overlaps c.args.service c.args.country c.args.first c.args.last)
    (ranges_of (g.B.Book.history c.args.book.now)) c.in_ok-covering.field-0 true
    (c.in_ok-covering.ensures.answer h) (sym c.is_some.ensures ∙ c.if-is_some.true) in
    sym (grant_of_post (g.B.Book.history c.args.book.now) c.args.customer c.args.holder
    c.args.service c.args.country c.args.first c.args.last true c.if-customer-ne0.false
    c.if-holder-eq0.false order any)

pub returns-clause-answer : goal.returns-clause-answer
returns-clause-answer g c = λ h.
    let h1 = c.next_number.ensures.reads.unchanged.was_honest h in
    let order : c.args.first ≤ c.args.last = omega (
      arith,
      c.if-value.false,
      c.value.ensures.value,
      c.value-else-holder-eq0.ensures.value,
    ) in
    let any : list_any (overlaps c.args.service c.args.country c.args.first c.args.last)
    (ranges_of (g.B.Book.history c.args.book.now)) ≡ false =
    any_is (overlaps c.args.service c.args.country c.args.first c.args.last)
    (ranges_of (g.B.Book.history c.args.book.now)) c.in_ok-covering.field-0 false
    (c.in_ok-covering.ensures.answer h1) (sym c.is_some.ensures ∙ c.if-is_some.false) in
    ap Granted (c.in_ok-range.ensures.answer h ∙ ap (λ l. length (ranges_of l) + 1)
    (c.covering.ensures.unchanged.same_history h1))
    ∙ sym (grant_of_post (g.B.Book.history c.args.book.now) c.args.customer c.args.holder
    c.args.service c.args.country c.args.first c.args.last false c.if-customer-ne0.false
    c.if-holder-eq0.false order any)

pub returns-then-holder-eq0-clause-answer : goal.returns-then-holder-eq0-clause-answer
returns-then-holder-eq0-clause-answer c = search rules
