use Rattle.std.proofs.Common.{◌≡◌, ◌≢◌, ℕ, List, ◌++◌, Option, Some, None, sym}
use Rattle.std.proofs.Common.{◌∙◌}
use Rattle.std.specs.Prelude.{MatchOption, IfSome, IsSomeAnd}
use denote.Ref.{Bor}
use Rattle.std.proofs.lemmas.Bool.Decides.{Decides-eqb}
use Rattle.std.proofs.lemmas.Slice.Eq.{strip_prefix_is}
use Rattle.std.proofs.lemmas.List.{append_cancel_left}
use Rattle.s10_notes.proofs.reading.after.Goals as goal

-- What was found follows the beginning.
found_after : (s p : List ℕ) (r : Option (Bor (List ℕ)))
    → MatchOption r ((rest : List ℕ) → s ≢ p ++ rest) (λ x. s ≡ p ++ x.now)
    → IfSome r (λ x. s ≡ p ++ x.now)
found_after s p None m = tt
found_after s p (Some x) m = m

-- A text with this beginning is found, with its rest.
rest_after : (s p : List ℕ) (r : Option (Bor (List ℕ)))
    → MatchOption r ((rest : List ℕ) → s ≢ p ++ rest) (λ x. s ≡ p ++ x.now)
    → (rest : List ℕ) → s ≡ p ++ rest → IsSomeAnd r (λ x. x.now ≡ rest)
rest_after s p None m rest is = absurd (m rest is)
rest_after s p (Some x) m rest is = append_cancel_left p x.now rest (sym m ∙ is)

pub returns-clause-spelled : goal.returns-clause-spelled
returns-clause-spelled c =
    found_after _ _ _ (strip_prefix_is Decides-eqb c.args.text.now c.args.beginning.now _
    c.strip_prefix.ensures.cases)

pub returns-clause-read : goal.returns-clause-read
returns-clause-read c = λ rest is.
    rest_after _ _ _ (strip_prefix_is Decides-eqb c.args.text.now c.args.beginning.now _
    c.strip_prefix.ensures.cases) rest is
