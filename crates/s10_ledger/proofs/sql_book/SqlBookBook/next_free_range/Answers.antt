use Rattle.std.proofs.Common.{◌∙◌, List, ap}
use Rattle.std.specs.Prelude.{find}
use Rattle.s10_history.specs.declared.entry.Entry.{Entry}
use Rattle.s10_history.specs.Settings.{Terms}
use Rattle.s10_history.specs.History.{ranges_of}
use Rattle.s10_book.specs.Rules.{is_free_after}
use Rattle.s10_ledger.specs.Ledger.{history_of}
use Rattle.s10_ledger.proofs.sql_book.SqlBookBook.next_free_range.Goals as goal

pub returns-clause-answer : goal.returns-clause-answer
returns-clause-answer g c =
    let kept = rw (← c.self.view_is) at c.ask_again.ensures.unchanged in
    rw (← c.self.view_is) (λ honest.
    let first = history_of g.S.Store c.args.self.now in
    c.next_free_range.ensures _
    (c.self.invariant.followed honest.clean honest.is_open).indexed
    ∙ ap (λ (h : List Entry). find (is_free_after h c.args.after c.args.held.now.holder
    c.args.held.now.service c.args.held.now.country c.args.day c.interval-interval.result)
    (ranges_of h)) (kept.same_history honest)
    ∙ ap (λ n. find (is_free_after first c.args.after c.args.held.now.holder
    c.args.held.now.service c.args.held.now.country c.args.day n) (ranges_of first))
    (c.interval-interval.ensures.value ∙ ap (λ (t : Terms). t.interval) (kept.same_terms honest)))
