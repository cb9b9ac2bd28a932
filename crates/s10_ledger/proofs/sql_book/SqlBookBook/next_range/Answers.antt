use Rattle.std.proofs.Common.{◌∙◌, ◌++◌, List, ap, sym, subst}
use Rattle.s10_ranges.specs.declared.ranges.Ranges.{Ranges}
use Rattle.s10_ranges.specs.Mirror.{Mirrors}
use Rattle.std.specs.Prelude.{find}
use Rattle.s10_history.specs.declared.entry.Entry.{Entry}
use Rattle.s10_history.specs.History.{ranges_of, is_open_after}
use Rattle.sqlite.specs.Held.{state}
use Rattle.s10_ledger.specs.Ledger.{history_in}
use Rattle.s10_ledger.specs.Pending.{calls_of}
use Rattle.s10_ledger.proofs.sql_book.SqlBookBook.next_range.Goals as goal

pub returns-clause-answer : goal.returns-clause-answer
returns-clause-answer g c =
    let kept = rw (← c.self.view_is) at c.ask_again.ensures.unchanged in
    rw (← c.self.view_is) (λ honest. c.next_open_range-next.ensures.open _
    (subst (λ (r : Ranges). Mirrors r (history_in (state g.S.Store c.self.inside.conn).now
    ++ calls_of c.self.inside.pending.items)) (sym c.ranges-2.ensures)
    (c.self.invariant.followed honest.clean honest.is_open).indexed.ranges)
    ∙ ap (λ (h : List Entry). find (is_open_after h c.args.after c.args.held.now.holder
    c.args.held.now.service c.args.held.now.country) (ranges_of h)) (kept.same_history honest))

pub returns-clause-above : goal.returns-clause-above
returns-clause-above g c = c.next_open_range-next.ensures.above
