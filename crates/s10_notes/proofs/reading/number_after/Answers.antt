use Rattle.std.proofs.Common.{◌++◌, ◌∷◌, ◌∙◌, arith}
use Rattle.std.specs.Prelude.{decimal}
use Rattle.std.proofs.lemmas.Option.{same_Some, none-some}
use Rattle.s10_notes.proofs.Numerals.{cut_after, number_lacks, place_after, behind}
use Rattle.s10_notes.proofs.reading.number_after.Goals as goal

pub returns-in_err-at-clause-read : goal.returns-in_err-at-clause-read
returns-in_err-at-clause-read c = λ n rest small is.
    let text = c.in_ok-text.ensures.read (decimal n ++ 44 ∷ rest) is in
    absurd (place_after c.in_ok-text.text.now (decimal n) rest 44
    (number_lacks n 44 small (λ digit. omega arith)) text c.in_err-at.ensures)

pub returns-in_err-number-clause-read : goal.returns-in_err-number-clause-read
returns-in_err-number-clause-read c = λ n rest small is.
    let text = c.in_ok-text.ensures.read (decimal n ++ 44 ∷ rest) is in
    let cut = cut_after c.in_ok-text.text.now c.in_ok-at.at (decimal n) rest 44
    (number_lacks n 44 small (λ digit. omega arith)) text c.in_ok-at.ensures in
    absurd (none-some n (c.in_err-number.ensures.read n small cut.0))

pub returns-clause-read : goal.returns-clause-read
returns-clause-read c = λ n rest small is.
    let text = c.in_ok-text.ensures.read (decimal n ++ 44 ∷ rest) is in
    let cut = cut_after c.in_ok-text.text.now c.in_ok-at.at (decimal n) rest 44
    (number_lacks n 44 small (λ digit. omega arith)) text c.in_ok-at.ensures in (
      same_Some _ _ (c.in_ok-number.ensures.read n small cut.0),
      behind c.in_ok-text.text.now c.in_ok-at.at ∙ cut.1,
    )
