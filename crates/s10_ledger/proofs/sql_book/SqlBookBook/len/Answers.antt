use Rattle.std.proofs.Common.{◌∙◌, length, ap}
use Rattle.s10_ledger.proofs.sql_book.SqlBookBook.len.Goals as goal

pub returns-clause-answer : goal.returns-clause-answer
returns-clause-answer g c = rw (← c.self.view_is) (λ honest. c.len.ensures
    ∙ ap length (c.calls.ensures
    ∙ (c.self.invariant.followed honest.clean honest.is_open).indexed.calls))
