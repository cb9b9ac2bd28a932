use Rattle.std.proofs.Common.{◌∙◌, List, ap}
use Rattle.s10_history.specs.declared.entry.Entry.{Entry}
use Rattle.s10_history.specs.History.{entry_at}
use Rattle.s10_ledger.proofs.sql_book.SqlBookBook.entry.Goals as goal

pub returns-clause-answer : goal.returns-clause-answer
returns-clause-answer g c =
    let kept = rw (← c.self.view_is) at c.ask_again.ensures.unchanged in
    rw (← c.self.view_is) (λ honest. c.entry.ensures ∙ ap (λ (h : List Entry). entry_at h c.args.at)
    ((c.self.invariant.followed honest.clean honest.is_open).indexed.calls
    ∙ kept.same_history honest))
