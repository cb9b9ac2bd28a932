use Rattle.std.proofs.Common.{[], ◌∷◌}
use Rattle.std.specs.Prelude.{decimal}
use Rattle.s10_lines.proofs.Growing.{words_then}
use Rattle.s10_lines.proofs.lines.write_named.Goals as goal

pub returns : goal.returns
returns c = words_then _ _ _ (c.args.name.now ∷ []) (decimal c.args.number ∷ []) c.add_word.ensures
    c.add_decimal.ensures
