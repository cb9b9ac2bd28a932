use Rattle.std.proofs.Common.{◌∙◌, ◌++◌, List, ap, sym, subst}
use Rattle.s10_ranges.specs.declared.ranges.Ranges.{Ranges}
use Rattle.s10_ranges.specs.Mirror.{Mirrors}
use Rattle.s10_history.specs.declared.entry.Entry.{Entry}
use Rattle.s10_history.specs.History.{is_closed}
use Rattle.sqlite.specs.Held.{state}
use Rattle.s10_ledger.specs.Ledger.{history_in}
use Rattle.s10_ledger.specs.Pending.{calls_of}
use Rattle.s10_ledger.proofs.sql_book.SqlBookBook.closed.Goals as goal

pub returns-clause-answer : goal.returns-clause-answer
returns-clause-answer g c =
    let kept = rw (← c.self.view_is) at c.ask_again.ensures.unchanged in
    rw (← c.self.view_is)
    (λ honest. c.is_closed.ensures _
    (subst (λ (r : Ranges). Mirrors r (history_in (state g.S.Store c.self.inside.conn).now
    ++ calls_of c.self.inside.pending.items)) (sym c.ranges-2.ensures)
    (c.self.invariant.followed honest.clean honest.is_open).indexed.ranges)
    ∙ ap (λ (h : List Entry). is_closed h c.args.num) (kept.same_history honest))
