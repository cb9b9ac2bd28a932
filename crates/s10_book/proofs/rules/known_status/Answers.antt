use Rattle.std.proofs.Common.{◌≡◌, ◌∙◌, sym, ap, true, false}
use Rattle.std.specs.Prelude.{not}
use Rattle.std.proofs.lemmas.Result.{IfOk-weaker}
use Rattle.s10_history.specs.History.{ranges_of}
use Rattle.s10_history.specs.Issues.{last_issue_of}
use Rattle.s10_book.specs.Rules.{status_of, status_of_issue}
use Rattle.s10_book.proofs.Owning.{lies_any, status_at}
use Rattle.s10_book.proofs.rules.known_status.Goals as goal

pub returns-then-is_none-clause-answer : goal.returns-then-is_none-clause-answer
returns-then-is_none-clause-answer g c = λ h.
    sym (status_at (g.B.Book.history c.args.book.now) c.args.id.now false
    (lies_any c.args.id.now (ranges_of (g.B.Book.history c.args.book.now)) c.in_ok-found.found false
    (rw c.of-span.ensures at c.in_ok-found.ensures.answer h) (c.is_none.ensures
    ∙ ap not c.if-is_none.true)))

pub returns-clause-answer : goal.returns-clause-answer
returns-clause-answer g c = λ h.
    let h1 = c.issue_status.ensures.reads.unchanged.was_honest h in
    let known : status_of (g.B.Book.history c.args.book.now) c.args.id.now
    ≡ status_of_issue (last_issue_of (g.B.Book.history c.args.book.now) c.args.id.now) =
    status_at (g.B.Book.history c.args.book.now) c.args.id.now true
    (lies_any c.args.id.now (ranges_of (g.B.Book.history c.args.book.now)) c.in_ok-found.found true
    (rw c.of-span.ensures at c.in_ok-found.ensures.answer h1) (c.is_none.ensures
    ∙ ap not c.if-is_none.false)) in
    IfOk-weaker c.issue_status.result _ _
    (λ s e. e ∙ ap (λ l. status_of_issue (last_issue_of l c.args.id.now))
    (c.covering.ensures.unchanged.same_history h1) ∙ sym known)
    (c.issue_status.ensures.answer h)
