use Rattle.std.proofs.Common.{[], ◌∷◌, ◌++◌, List, ℕ}
use Rattle.std.specs.Prelude.{codes, decimal}
use Rattle.s10_core.specs.Letters.{letters_of}
use Rattle.s10_core.specs.Serial.{digits_of}
use Rattle.s10_lines.proofs.Growing.{words_then, same_word}
use Rattle.s10_lines.proofs.lines.write_grant.Goals as goal

pub returns : goal.returns
returns c =
    let holder : List (List ℕ) = codes "holder" ∷ decimal c.args.holder ∷ [] in
    let letters : List (List ℕ) = letters_of c.args.service ∷ letters_of c.args.country ∷ [] in
    let first : List (List ℕ) = digits_of c.args.first ∷ [] in
    words_then _ _ _ (holder ++ letters ++ first) (digits_of c.args.last ∷ [])
    (words_then _ _ _ (holder ++ letters) first
    (words_then _ _ _ holder letters c.write_named.ensures c.write_letters.ensures)
    (same_word _ _ c.serial_digits.result (digits_of c.args.first) c.serial_digits.ensures.digits
    c.add_word.ensures))
    (same_word _ _ c.serial_digits-2.result (digits_of c.args.last) c.serial_digits-2.ensures.digits
    c.add_word-2.ensures)
