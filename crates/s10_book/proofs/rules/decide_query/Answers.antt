use Rattle.std.proofs.Common.{◌≡◌, ◌∙◌, sym, ap, true}
use Rattle.std.specs.List.{list_any}
use Rattle.s10_wire.specs.declared.outcome.Outcome.TheVariants.{Told}
use Rattle.s10_history.specs.History.{ranges_of, is_own}
use Rattle.s10_history.specs.Issues.{last_issue_of}
use Rattle.s10_book.specs.Rules.{status_of_issue}
use Rattle.s10_book.proofs.Owning.{own_query}
use Rattle.s10_book.proofs.rules.decide_query.Goals as goal

pub returns-then-customer-eq0-clause-answer : goal.returns-then-customer-eq0-clause-answer
returns-then-customer-eq0-clause-answer g c =
    λ h. rw c.if-customer-eq0.true (ap (λ s. Told s) (c.in_ok-status.ensures.answer h))

pub returns-clause-answer : goal.returns-clause-answer
returns-clause-answer g c = λ h.
    let h1 = c.in_ok-status-2.ensures.reads.unchanged.was_honest h in
    let own : list_any (is_own c.args.customer c.args.id.now)
    (ranges_of (g.B.Book.history c.args.book.now)) ≡ true =
    sym (c.in_ok-owns.ensures.answer h1) ∙ c.if-not-branch.false in
    ap (λ s. Told s) (c.in_ok-status-2.ensures.answer h
    ∙ ap (λ l. status_of_issue (last_issue_of l c.args.id.now))
    (c.in_ok-owns.ensures.reads.unchanged.same_history h1))
    ∙ sym (own_query (g.B.Book.history c.args.book.now) c.args.customer c.args.id.now own)
