-- The check value of a text: CRC-32, as IEEE 802.3 and zlib have it.
--
-- A text is a polynomial over the field of two elements, and so is the remainder of its division by
-- the generator, which has the degree 32. A remainder is a number of 32 bits: its bit 31 - k is the
-- coefficient of x^k, and a sum is `bit_xor`.
use Rattle.std.specs.Prelude.{ℕ, ◌-◌, ◌/◌, ◌%◌, ◌^◌, ◌<◌, ◌==◌, List, bit_xor, fold, if◌then◌else◌}
use Rattle.std.specs.Int.{to_be_bytes, w32}
use Rattle.hex.specs.Hex.{encode_lower}

-- The generator is x^32 and these: x^26 + x^23 + x^22 + x^16 + x^12 + x^11 + x^10 + x^8 + x^7 + x^5
-- + x^4 + x^2 + x + 1.
abbrev pub generator : ℕ
generator = 0xEDB88320

-- The remainder times x. An x^32 in it is the rest of the generator.
unfoldable pub times_x : ℕ → ℕ
times_x remainder = if remainder % 2 == 1 then bit_xor (remainder / 2) generator else remainder / 2

-- The remainder times x^4.
abbrev pub times_x4 : ℕ → ℕ
times_x4 remainder = times_x (times_x (times_x (times_x remainder)))

-- The remainder after a byte, whose lowest bit is the coefficient of the highest power.
abbrev pub after_byte : ℕ → ℕ → ℕ
after_byte remainder byte = times_x4 (times_x4 (bit_xor remainder byte))

-- The check value of a text. The remainder begins with all bits set, and is complemented at the end.
unfoldable pub check_value : List ℕ → ℕ
check_value text = 2 ^ 32 - 1 - fold after_byte (2 ^ 32 - 1) text

-- The number is a byte.
abbrev pub IsByte : ℕ → Type 0
IsByte n = n < 256

-- The check value in eight lower-case hexadecimal digits.
abbrev pub check_digits : List ℕ → List ℕ
check_digits text = encode_lower (to_be_bytes w32 (check_value text))
