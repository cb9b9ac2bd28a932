use Rattle.std.proofs.Common.{◌∙◌, List, ap}
use Rattle.s10_history.specs.declared.entry.Entry.{Entry}
use Rattle.s10_history.specs.Issues.{last_issue_of}
use Rattle.s10_ledger.proofs.sql_book.SqlBookBook.last_issue.Goals as goal

pub returns-clause-answer : goal.returns-clause-answer
returns-clause-answer g c =
    let kept = rw (← c.self.view_is) at c.ask_again.ensures.unchanged in
    rw (← c.self.view_is) (λ honest. c.last_issue.ensures _ (c.self.invariant.followed honest.clean
    honest.is_open).indexed
    ∙ ap (λ (h : List Entry). last_issue_of h c.args.id.now) (kept.same_history honest))
