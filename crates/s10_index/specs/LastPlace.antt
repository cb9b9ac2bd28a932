-- Defines the last element of a list that passes a test.
use Rattle.std.specs.Prelude.{ℕ, zero, suc, Bool, false, if◌then◌else◌, List, Option, Some, None}
use Rattle.std.specs.Prelude.{slice_get}
use Rattle.std.specs.Option.{option_map, unwrap_or}

-- Whether there is an element at the index, and it passes.
abbrev pub passes_at : {A : Type 0} → (A → Bool) → List A → ℕ → Bool
passes_at p xs i = unwrap_or (option_map p (slice_get xs i)) false

-- The greatest index below n at which the element passes.
abbrev pub last_place : {A : Type 0} → (A → Bool) → List A → ℕ → Option ℕ
last_place p xs zero = None
last_place p xs (suc n) = if passes_at p xs n then Some n else last_place p xs n
