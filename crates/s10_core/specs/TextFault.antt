-- Why a text does not spell an identifier: the first refusal that applies. Places count from 0.
use Rattle.std.specs.Prelude.{◌≡◌, ◌≢◌, ℕ, ◌<◌, ◌≤◌, ◌⊎◌, List, length, slice_index, slice_range}
use Rattle.std.specs.Char.{IsAsciiDigit}
use Rattle.s10_core.specs.declared.text_fault.TextFault.{TextFault}
use Rattle.s10_core.specs.declared.text_fault.TextFault.TheVariants.{Length, Letter, Digit}
use Rattle.s10_core.specs.declared.text_fault.TextFault.TheVariants.{CheckDigit}
use Rattle.s10_core.specs.Letters.{IsCapital}
use Rattle.s10_core.specs.Serial.{number_of, check_digit_of, character_of}

-- The places 0, 1, 11 and 12 need a letter.
abbrev pub IsLetterPlace : ℕ → Type 0
IsLetterPlace at = (at < 2) ⊎ ((11 ≤ at) × (at < 13))

-- The places 2 to 10 need a digit.
abbrev pub IsDigitPlace : ℕ → Type 0
IsDigitPlace at = (2 ≤ at) × (at < 11)

-- A text is right at a place if its character there is of the kind that the place needs.
pub record IsRightAt (text : List ℕ) (at : ℕ) : Type 0 where
  pub letter : IsLetterPlace at → IsCapital (slice_index text at)
  pub digit : IsDigitPlace at → IsAsciiDigit (slice_index text at)

-- A text is right before a place if it is right at each earlier place.
abbrev pub IsRightBefore : List ℕ → ℕ → Type 0
IsRightBefore text at = (place : ℕ) → place < at → IsRightAt text place

-- A text is checked if its check digit is that of its serial number.
abbrev pub IsChecked : List ℕ → Type 0
IsChecked text = slice_index text 10
    ≡ character_of (check_digit_of (number_of (slice_range text 2 10)))

-- A fault is the first refusal of a text if it applies, and none before it does.
abbrev pub IsFirstRefusal : List ℕ → TextFault → Type 0
IsFirstRefusal text Length = length text ≢ 13
IsFirstRefusal text (Letter at) =
    (length text ≡ 13) × IsRightBefore text at × IsLetterPlace at
    × ¬ IsCapital (slice_index text at)
IsFirstRefusal text (Digit at) =
    (length text ≡ 13) × IsRightBefore text at × IsDigitPlace at
    × ¬ IsAsciiDigit (slice_index text at)
IsFirstRefusal text CheckDigit = (length text ≡ 13) × IsRightBefore text 13 × ¬ IsChecked text
