use Rattle.std.proofs.Common.{[], ◌∷◌}
use Rattle.s10_core.specs.Letters.{letters_of}
use Rattle.s10_lines.proofs.Growing.{words_then, same_word}
use Rattle.s10_lines.proofs.lines.write_letters.Goals as goal

pub returns : goal.returns
returns c = words_then _ _ _ (letters_of c.args.service ∷ []) (letters_of c.args.country ∷ [])
    (same_word _ _ c.bytes.result (letters_of c.args.service) c.bytes.ensures.letters
    c.add_word.ensures)
    (same_word _ _ c.bytes-2.result (letters_of c.args.country) c.bytes-2.ensures.letters
    c.add_word-2.ensures)
