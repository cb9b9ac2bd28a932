use Rattle.std.proofs.Common.{[], ◌∷◌}
use Rattle.s10_core.specs.Serial.{digits_of}
use Rattle.s10_lines.proofs.Writing.{words_follow, same_word}
use Rattle.s10_lines.proofs.words.write_serials.Goals as goal

pub returns : goal.returns
returns g c =
    words_follow _ _ _ (digits_of c.args.first ∷ []) (digits_of c.args.last ∷ [])
    c.write_word-2.result
    (rw c.serial_digits.ensures.digits at c.in_ok-write_word.ensures)
    (same_word _ _ c.serial_digits-2.result (digits_of c.args.last) c.write_word-2.result
    c.serial_digits-2.ensures.digits c.write_word-2.ensures)
