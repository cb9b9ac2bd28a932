use Rattle.std.proofs.Common.{◌∙◌, List, ap}
use Rattle.s10_ranges.specs.declared.ranges.Ranges.{Ranges}
use Rattle.std.specs.Prelude.{find}
use Rattle.s10_history.specs.declared.entry.Entry.{Entry}
use Rattle.s10_history.specs.History.{ranges_of, overlaps}
use Rattle.s10_ledger.proofs.sql_book.SqlBookBook.covering.Goals as goal

pub returns-clause-answer : goal.returns-clause-answer
returns-clause-answer g c =
    let kept = rw (← c.self.view_is) at c.ask_again.ensures.unchanged in
    rw (← c.self.view_is) (λ honest. c.covering_range-found.ensures
    ∙ ap (find (overlaps c.args.span.now.service c.args.span.now.country
    c.args.span.now.first c.args.span.now.last)) (ap (λ (r : Ranges). r.ranges.items)
    c.ranges-2.ensures
    ∙ (c.self.invariant.followed honest.clean honest.is_open).indexed.ranges.ranges)
    ∙ ap (λ (h : List Entry). find (overlaps c.args.span.now.service c.args.span.now.country
    c.args.span.now.first c.args.span.now.last) (ranges_of h)) (kept.same_history honest))
