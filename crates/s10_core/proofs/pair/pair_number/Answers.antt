use Rattle.std.proofs.Common.{◌∙◌, ap₂, [], ◌∷◌, get_or}
use Rattle.std.specs.Int.{w32, from_be_bytes}
use Rattle.s10_core.specs.Pair.{pair_of}
use Rattle.s10_core.proofs.pair.pair_number.Goals as goal

pub returns-clause-value : goal.returns-clause-value
unfolding pair_of
returns-clause-value c =
    c.from_be_bytes.ensures
    ∙ ap₂ (λ a b. from_be_bytes w32 (get_or a 0 0 ∷ get_or a 1 0 ∷ get_or b 0 0 ∷ get_or b 1 0
    ∷ [])) c.bytes.ensures.letters c.bytes-2.ensures.letters
