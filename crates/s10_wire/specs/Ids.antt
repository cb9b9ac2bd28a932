-- The identifiers of a sheet, and their number.
use Rattle.std.specs.Prelude.{◌≡◌, ℕ, ◌-◌, ◌≤◌, List, [], ◌∷◌, ◌++◌, length, take, replicate, All}
use Rattle.std.specs.List.{flat_map}
use Rattle.s10_core.specs.declared.id.Id.{Id}
use Rattle.s10_core.specs.Id.{IsId, spelling_of}

-- A number is a count if it is from 1 to 16.
abbrev pub IsCount : ℕ → Type 0
IsCount n = (1 ≤ n) × (n ≤ 16)

-- A list is a sheet if it has 1 to 16 identifiers with parts in their ranges.
abbrev pub AreIds : List Id → Type 0
AreIds ids = IsCount (length ids) × All IsId ids

-- The first identifier of a list; of an empty list, AA 00000000 AA.
abbrev pub first_id : List Id → Id
first_id [] = record { service = (65, 65); serial = 0; country = (65, 65) }
first_id (id ∷ ids) = id

-- The identifiers, followed by copies of the first one, 16 in all.
abbrev pub padded_with_first : List Id → List Id
padded_with_first ids = ids ++ replicate (16 - length ids) (first_id ids)

-- An array holds `len` identifiers if copies of the first one follow them, 16 in all.
pub record ArePaddedWithFirst (room : List Id) (len : ℕ) : Type 0 where
  pub count : IsCount len
  pub long : length (take len room) ≡ len
  pub rest : room ≡ padded_with_first (take len room)

-- The texts of the identifiers, one after the other.
abbrev pub spellings_of : List Id → List ℕ
spellings_of ids = flat_map spelling_of ids
