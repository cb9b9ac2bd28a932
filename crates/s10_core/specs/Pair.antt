-- A service and a country as one number.
use Rattle.std.specs.Prelude.{ℕ, ◌++◌}
use Rattle.std.specs.Int.{w32, from_be_bytes}
use Rattle.s10_core.specs.Letters.{letters_of}

-- The four bytes of service and country as a big-endian number.
unfoldable pub pair_of : ℕ × ℕ → ℕ × ℕ → ℕ
pair_of service country = from_be_bytes w32 (letters_of service ++ letters_of country)
