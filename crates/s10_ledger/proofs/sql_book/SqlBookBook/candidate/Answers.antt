use Rattle.std.proofs.Common.{◌∙◌, List, ap, sym, subst, arith}
use Rattle.std.specs.Prelude.{Contains}
use Rattle.s10_history.specs.declared.entry.Entry.{Entry}
use Rattle.s10_history.specs.History.{ranges_of}
use Rattle.s10_history.specs.Issues.{candidate_of}
use Rattle.s10_book.proofs.Marks.{all_at_pick}
use Rattle.s10_ledger.proofs.sql_book.SqlBookBook.candidate.Goals as goal

pub returns-clause-answer : goal.returns-clause-answer
returns-clause-answer g c =
    let kept = rw (← c.self.view_is) at c.ask_again.ensures.unchanged in
    rw (← c.self.view_is) (λ honest.
    let legal = honest.legal in
    let has = subst (λ (h : List Entry). Contains (ranges_of h) c.args.range.now)
    (sym (kept.same_history honest)) (c.requires (kept.was_honest honest)) in
    let turns = all_at_pick _ _ legal c.args.range.now has in
    c.candidate_after.ensures _ _ legal (c.self.invariant.followed honest.clean
    honest.is_open).indexed has (omega (arith, turns.low, turns.high))
    ∙ ap (λ (h : List Entry). candidate_of h c.args.range.now) (kept.same_history honest))
