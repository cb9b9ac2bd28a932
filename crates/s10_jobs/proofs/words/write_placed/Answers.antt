use Rattle.std.proofs.Common.{[], ◌∷◌}
use Rattle.std.specs.Prelude.{decimal}
use Rattle.s10_lines.proofs.Writing.{words_follow}
use Rattle.s10_jobs.proofs.words.write_placed.Goals as goal

pub returns : goal.returns
returns g c =
    words_follow _ _ _ (c.args.word.now ∷ []) (decimal c.args.at ∷ []) c.write_decimal.result
    c.in_ok-write_word.ensures c.write_decimal.ensures
