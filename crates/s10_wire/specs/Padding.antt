-- Bytes at the front of an array, followed by zeros.
use Rattle.std.specs.Prelude.{◌≡◌, ℕ, ◌-◌, ◌≤◌, List, ◌++◌, length, take, replicate}

-- The bytes, followed by zeros, `size` in all.
abbrev pub zero_padded : ℕ → List ℕ → List ℕ
zero_padded size bytes = bytes ++ replicate (size - length bytes) 0

-- An array of `size` bytes holds `len` bytes if they are at its front and zeros follow them.
pub record IsZeroPadded (size : ℕ) (room : List ℕ) (len : ℕ) : Type 0 where
  pub few : len ≤ size
  pub long : length (take len room) ≡ len
  pub rest : room ≡ zero_padded size (take len room)
