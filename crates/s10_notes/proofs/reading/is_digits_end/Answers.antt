use Rattle.std.proofs.Common.{◌++◌, ◌∙◌, ap}
use Rattle.std.specs.Prelude.{codes}
use Rattle.s10_notes.proofs.reading.is_digits_end.Goals as goal

pub returns-in-Some : goal.returns-in-Some
returns-in-Some c = (
  λ yes. c.in-Some.ensures.spelled ∙ ap (λ rest. c.args.digits.now ++ rest) (c.is_same.ensures.0 yes),
  λ is. c.is_same.ensures.1 (c.in-Some.ensures.read (codes "\"}\n") is),
)

pub returns-in-None : goal.returns-in-None
returns-in-None c = (λ yes. absurd cc, λ is. absurd (c.in-None.ensures.read (codes "\"}\n") is))
