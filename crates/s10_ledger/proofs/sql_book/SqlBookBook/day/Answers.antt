use Rattle.std.proofs.Common.{◌∙◌, ap}
use Rattle.s10_history.specs.History.{day_of}
use Rattle.s10_ledger.proofs.sql_book.SqlBookBook.day.Goals as goal

pub returns : goal.returns
returns g c = rw (← c.self.view_is) (λ honest. c.day.ensures
    ∙ ap day_of (c.self.invariant.followed honest.clean honest.is_open).indexed.calls)
