-- Identifiers and their texts.
use Rattle.std.specs.Prelude.{◌≡◌, ℕ, ◌==◌, Bool, not, ◌&&◌, List, [], ◌∷◌, ◌++◌, map, filter}
use Rattle.std.specs.Char.{to_ascii_uppercase}
use Rattle.s10_core.specs.declared.id.Id.{Id}
use Rattle.s10_core.specs.Letters.{AreCapitals, letters_of, same_letters}
use Rattle.s10_core.specs.Serial.{IsSerial, digits_of, check_digit_of, character_of}

-- An identifier is valid if each of its parts is in its range.
pub record IsId (id : Id) : Type 0 where
  pub service : AreCapitals id.service
  pub serial : IsSerial id.serial
  pub country : AreCapitals id.country

-- The service indicator, the eight digits of the serial number, its check digit and the country
-- code.
abbrev pub spelling_of : Id → List ℕ
spelling_of id =
    letters_of id.service ++ digits_of id.serial ++ character_of (check_digit_of id.serial) ∷ []
    ++ letters_of id.country

-- A text spells an identifier if it is the spelling of that identifier, byte for byte.
pub record Spells (text : List ℕ) (id : Id) : Type 0 where
  pub in_range : IsId id
  pub spelled : text ≡ spelling_of id

-- The text without its spaces, with the letters a to z as capitals.
abbrev pub normalized : List ℕ → List ℕ
normalized text = map to_ascii_uppercase (filter (λ character. not (character == 32)) text)

-- A label text spells an identifier if it does so without its spaces and in capitals.
abbrev pub SpellsLoosely : List ℕ → Id → Type 0
SpellsLoosely text id = Spells (normalized text) id

-- Whether two identifiers are equal.
abbrev pub same_id : Id → Id → Bool
same_id x y = same_letters x.service y.service && (x.serial == y.serial) && same_letters x.country
    y.country
