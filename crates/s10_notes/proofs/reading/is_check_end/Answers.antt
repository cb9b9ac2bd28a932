use Rattle.std.proofs.Common.{◌≡◌, ◌++◌, ◌∙◌, ap, sym}
use Rattle.std.specs.Prelude.{codes}
use Rattle.s10_notes.specs.CheckValue.{check_digits}
use Rattle.s10_notes.proofs.reading.is_check_end.Goals as goal

pub returns-in-Some : goal.returns-in-Some
returns-in-Some c =
    let digits = check_digits c.args.members.now in
    let is : c.check_digits.result ≡ digits = c.check_digits.ensures in (
      λ yes. c.in-Some.ensures.spelled ∙ ap (λ rest. codes ", \"check\": \"" ++ rest)
          (c.is_digits_end.ensures.0 yes ∙ ap (λ front. front ++ codes "\"}\n") is),
      λ ends. c.is_digits_end.ensures.1 (c.in-Some.ensures.read (digits ++ codes "\"}\n") ends
          ∙ ap (λ front. front ++ codes "\"}\n") (sym is)),
    )

pub returns-in-None : goal.returns-in-None
returns-in-None c = (
  λ yes. absurd cc,
  λ ends. absurd (c.in-None.ensures.read (check_digits c.args.members.now ++ codes "\"}\n") ends),
)
