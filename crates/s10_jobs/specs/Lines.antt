-- The lines that `check` and `make` print.
use Rattle.std.specs.Prelude.{◌≡◌, ℕ, Bool, if◌then◌else◌, List, [], ◌∷◌, ◌++◌, length, codes, All}
use Rattle.s10_core.specs.declared.id.Id.{Id}
use Rattle.s10_core.specs.declared.text_fault.TextFault.{TextFault}
use Rattle.s10_core.specs.Letters.{IsCapital, group_of}
use Rattle.s10_core.specs.Serial.{number_of, check_digit_of, character_of, AreEightDigits}
use Rattle.s10_core.specs.Id.{spelling_of, normalized, Spells}
use Rattle.s10_core.specs.TextFault.{IsFirstRefusal}
use Rattle.s10_lines.specs.Lines.{line_of}
use Rattle.s10_jobs.specs.Words.{group_words, text_fault_words}
use Rattle.s10_jobs.specs.declared.job_status.JobStatus.{JobStatus}
use Rattle.s10_jobs.specs.declared.job_status.JobStatus.TheVariants.{Done, Refused}

-- A refusal, by its words.
abbrev pub refused_line : List (List ℕ) → List ℕ
refused_line words = line_of (codes "refused") words

-- A label is read without its spaces and in capitals. Any other text is read as it is.
abbrev pub text_read : Bool → List ℕ → List ℕ
text_read is_label text = if is_label then normalized text else text

-- The line of a valid identifier, with its group.
abbrev pub valid_line : Id → List ℕ
valid_line id = line_of (spelling_of id) (codes "valid" ∷ group_words (group_of id.service.0) ∷ [])

-- The text is two capital letters.
abbrev pub AreTwoCapitals : List ℕ → Type 0
AreTwoCapitals text = (length text ≡ 2) × All IsCapital text

-- The parts in their order, with the check digit after the eight digits of the serial.
abbrev pub made_line : List ℕ → List ℕ → List ℕ → List ℕ
made_line service digits country =
    service ++ digits ++ character_of (check_digit_of (number_of digits)) ∷ [] ++ country
    ++ codes "\n"

-- What `check` prints for a text, with its status.
pub record IsChecked (is_label : Bool) (text : List ℕ) (status : JobStatus) (line : List ℕ) : Type 0
  where
    pub valid : (id : Id) → Spells (text_read is_label text) id
        → (status ≡ Done) × (line ≡ valid_line id)
    pub refused : (fault : TextFault) → IsFirstRefusal (text_read is_label text) fault
        → (status ≡ Refused) × (line ≡ refused_line (text_fault_words fault))

-- What `make` prints for three parts, with its status: the identifier, or the first part that is
-- invalid.
pub record IsMade (service serial country : List ℕ) (status : JobStatus) (line : List ℕ) : Type 0
  where
    pub made : AreTwoCapitals service → AreEightDigits serial → AreTwoCapitals country
        → (status ≡ Done) × (line ≡ made_line service serial country)
    pub no_service : ¬ AreTwoCapitals service
        → (status ≡ Refused) × (line ≡ refused_line (codes "service" ∷ []))
    pub no_serial : AreTwoCapitals service → ¬ AreEightDigits serial
        → (status ≡ Refused) × (line ≡ refused_line (codes "serial" ∷ []))
    pub no_country : AreTwoCapitals service → AreEightDigits serial → ¬ AreTwoCapitals country
        → (status ≡ Refused) × (line ≡ refused_line (codes "country" ∷ []))
