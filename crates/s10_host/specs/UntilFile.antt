-- A source of ends that looks for a file.
use Rattle.std.specs.Prelude.{◌≡◌, Bool, true}

-- The source stays as it is. It ends turns only if a file is named.
abbrev pub EndsIfNamed : Bool → Bool → Bool → Type 0
EndsIfNamed named answer after = (after ≡ named) × (answer ≡ true → named ≡ true)
