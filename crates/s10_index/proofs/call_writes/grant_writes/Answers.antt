use Rattle.std.proofs.Common.{◌++◌, ◌∷◌, [], ◌∙◌, List, ap}
use Rattle.std.proofs.lemmas.Result.{err_from_is_err_and}
use Rattle.s10_rows.specs.declared.range_write.RangeWrite.{RangeWrite}
use Rattle.s10_index.proofs.call_writes.grant_writes.Goals as goal

pub returns-in_err-add_range-clause-done : goal.returns-in_err-add_range-clause-done
returns-in_err-add_range-clause-done c h t n follows is =
    let p = err_from_is_err_and c.from_residual.result c.from_residual.ensures.1 in
    rw (p.1, p.2) c.in_err-add_range.ensures.memory

pub returns-in_err-add_range-clause-answer : goal.returns-in_err-add_range-clause-answer
returns-in_err-add_range-clause-answer c h t n legal follows is =
    let p = err_from_is_err_and c.from_residual.result c.from_residual.ensures.1 in
    rw p.1 tt

pub returns-clause-answer : goal.returns-clause-answer
returns-clause-answer c h t n legal follows is =
    rw (
      c.in_ok-add_range.ensures.ranges ∙ ap (λ (l : List RangeWrite). l ++ c.in-Some.write ∷ [])
          c.new-made.ensures.ranges,
      c.add_range.ensures.serials ∙ c.new-made.ensures.serials,
    )
    (c.in-Some.ensures.made h t n legal follows is)
