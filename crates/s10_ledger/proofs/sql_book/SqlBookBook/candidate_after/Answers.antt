use Rattle.std.proofs.Common.{◌∙◌, List, ap, sym, subst}
use Rattle.std.specs.Prelude.{Contains}
use Rattle.s10_history.specs.declared.entry.Entry.{Entry}
use Rattle.s10_history.specs.History.{ranges_of}
use Rattle.s10_history.specs.Issues.{candidate_after_of}
use Rattle.s10_ledger.proofs.sql_book.SqlBookBook.candidate_after.Goals as goal

pub returns-clause-answer : goal.returns-clause-answer
returns-clause-answer g c =
    let kept = rw (← c.self.view_is) at c.ask_again.ensures.unchanged in
    rw (← c.self.view_is) (λ honest.
    let has = subst (λ (h : List Entry). Contains (ranges_of h) c.args.range.now)
    (sym (kept.same_history honest)) (c.requires.there (kept.was_honest honest)) in
    c.candidate_after.ensures _ _ honest.legal (c.self.invariant.followed honest.clean
    honest.is_open).indexed has c.requires.fewer
    ∙ ap (λ (h : List Entry). candidate_after_of h c.args.range.now c.args.issued)
    (kept.same_history honest))
