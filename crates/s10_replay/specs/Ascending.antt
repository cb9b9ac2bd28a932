-- Defines when the elements of a list rise.
use Rattle.std.specs.Prelude.{List, [], ◌∷◌, ⊤}
use Rattle.std.specs.List.{AllByRecursion}

-- Each element is below each later one, by the relation R.
abbrev pub IsAscending : {X : Type 0} → (X → X → Type 0) → List X → Type 0
IsAscending R [] = ⊤
IsAscending R (x ∷ xs) = AllByRecursion (R x) xs × IsAscending R xs
