use Rattle.std.proofs.Common.{[], ◌∷◌}
use Rattle.std.specs.Prelude.{codes, decimal}
use Rattle.s10_lines.proofs.Growing.{words_then}
use Rattle.s10_lines.proofs.lines.write_granted.Goals as goal

pub returns : goal.returns
returns c = words_then _ _ _ (codes "done" ∷ []) (codes "range" ∷ decimal c.args.range ∷ [])
    c.add_word.ensures c.write_named.ensures
