use Rattle.std.proofs.Common.{[], ◌∷◌}
use Rattle.s10_core.specs.Letters.{letters_of}
use Rattle.s10_lines.proofs.Writing.{words_follow, same_word}
use Rattle.s10_lines.proofs.words.write_letters.Goals as goal

pub returns : goal.returns
returns g c =
    words_follow _ _ _ (letters_of c.args.service ∷ []) (letters_of c.args.country ∷ [])
    c.write_word-2.result
    (rw c.bytes.ensures.letters at c.in_ok-write_word.ensures)
    (same_word _ _ c.bytes-2.result (letters_of c.args.country) c.write_word-2.result
    c.bytes-2.ensures.letters c.write_word-2.ensures)
