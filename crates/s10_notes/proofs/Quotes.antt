-- Hexadecimal digits before a quote.
use Rattle.std.proofs.Common.{◌≡◌, ℕ, zero, suc, ◌/◌, ◌%◌, ◌<◌, List, [], ◌∷◌, slice_index, arith, sym, ap, ◌∙◌}
use Rattle.std.proofs.lemmas.Option.{none-some}
use Rattle.hex.specs.Hex.{IsBytes, encode_lower, encode_with, hex_digit_value, lower_digits}
use Rattle.hex.proofs.HexLemmas.{IsDigits-lower_digits}
use Rattle.s10_notes.proofs.Numerals.{Lacks}

-- A digit is no quote.
no_quote : (d : ℕ) → d < 16 → slice_index lower_digits d ≡ 34 → ⊥
no_quote d low same = none-some d (sym (ap hex_digit_value same) ∙ IsDigits-lower_digits d low)

-- Digits have no quote.
pub digits_lack : (bytes : List ℕ) → IsBytes bytes → Lacks (encode_lower bytes) 34
unfolding encode_with
digits_lack [] small k low same = absurd (omega (arith, low))
digits_lack (b ∷ rest) small zero low same = let byte : b < 256 = small 0 in
    no_quote (b / 16) (omega (arith, byte)) same
digits_lack (b ∷ rest) small (suc zero) low same = no_quote (b % 16) (omega arith) same
digits_lack (b ∷ rest) small (suc (suc k)) low same =
    digits_lack rest (λ i. small (suc i)) k (omega (arith, low)) same
