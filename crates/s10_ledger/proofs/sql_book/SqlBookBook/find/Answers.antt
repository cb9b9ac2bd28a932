use Rattle.std.proofs.Common.{◌∙◌, List, ap}
use Rattle.s10_history.specs.declared.entry.Entry.{Entry}
use Rattle.s10_history.specs.History.{find_entry}
use Rattle.s10_ledger.proofs.sql_book.SqlBookBook.find.Goals as goal

pub returns-clause-answer : goal.returns-clause-answer
returns-clause-answer g c =
    let kept = rw (← c.self.view_is) at c.ask_again.ensures.unchanged in
    rw (← c.self.view_is) (λ honest. c.find.ensures.answer _ (c.self.invariant.followed honest.clean
    honest.is_open).indexed
    ∙ ap (λ (h : List Entry). find_entry h c.args.customer c.args.number)
    (kept.same_history honest))
