-- Fields that csv writes without quotes.
use Rattle.std.proofs.Common.{◌≡◌, ℕ, zero, suc, ◌+◌, ◌/◌, ◌%◌, ◌<◌, ◌==◌, nat_lt, if◌then◌else◌}
use Rattle.std.proofs.Common.{Bool, true, false, List, [], ◌∷◌, ◌++◌, map, Option, Some, None, refl}
use Rattle.std.proofs.Common.{arith, subst, codes, decimal}
use Rattle.std.proofs.lemmas.Bool.{ne_eqb}
use Rattle.std.proofs.lemmas.List.Folds.{list_any-append}
use Rattle.std.specs.Fmt.{digits, digits_onto, digit_glyph}
use Rattle.std.specs.Io.KnownBytes.{Appends}
use Rattle.std.specs.List.{list_any}
use Rattle.std.specs.Prelude.{OnOk, Result}
use Rattle.csv.specs.Writing.{needs_byte, field_text, fields_text, row_text, is_blank}
use Rattle.s10_core.specs.declared.id.Id.{Id}
use Rattle.s10_core.specs.Letters.{AreCapitals, letters_of}
use Rattle.s10_core.specs.Serial.{character_of, check_digit_of, digit_of, digits_of}
use Rattle.s10_core.specs.Id.{IsId, spelling_of}
use Rattle.s10_dates.specs.declared.date.Date.{Date}
use Rattle.s10_dates.specs.Dates.{date_text, two_digits}
use Rattle.s10_history.specs.declared.range.Range.{Range}
use Rattle.s10_history.specs.declared.issue.Issue.{Issue}
use Rattle.s10_history.specs.declared.issuance.Issuance.{Issuance}
use Rattle.s10_reports.specs.Records.{after_commas, range_number, record_of, record_writer, yes_or_no}
use Rattle.s10_reports.specs.States.{is_last, state_of}

-- A field is plain if no byte of it calls for quotes.
abbrev pub IsPlain : List ℕ → Type 0
IsPlain field = list_any (needs_byte record_writer) field ≡ false

-- Each of the fields is plain.
abbrev pub ArePlain : List (List ℕ) → Type 0
ArePlain [] = Unit {0}
ArePlain (field ∷ fields) = IsPlain field × ArePlain fields

infixr 2 ◌▸◌
-- Joins the fact of a field to those of the fields after it.
pub ◌▸◌ : {A B : Type 0} → A → B → A × B
a ▸ b = (a, b)

-- The bytes that call for quotes are at most 44, the comma. Digits, letters and hyphens are above.
plain_byte : (byte : ℕ) → 44 < byte → needs_byte record_writer byte ≡ false
plain_byte byte above =
    rw (
      ne_eqb byte 44 (λ e. omega (arith, e)),
      ne_eqb byte 34 (λ e. omega (arith, e)),
      ne_eqb byte 13 (λ e. omega (arith, e)),
      ne_eqb byte 10 (λ e. omega (arith, e)),
    )
    refl

plain_then : (byte : ℕ) (field : List ℕ) → 44 < byte → IsPlain field → IsPlain (byte ∷ field)
plain_then byte field above plain = rw (plain_byte byte above) plain

plain-append : (a b : List ℕ) → IsPlain a → IsPlain b → IsPlain (a ++ b)
plain-append a b first second = rw (list_any-append (needs_byte record_writer) a b, first) second

glyph_above : (digit : ℕ) → 44 < digit_glyph false digit
glyph_above digit =
    elim (nat_lt digit 10) as (λ small. 44 < (if small then 48 + digit else 87 + digit))
    [ true ↦ omega arith | false ↦ omega arith ]

plain-digits_onto : (places number : ℕ) (rest : List ℕ) → IsPlain rest
    → IsPlain (digits_onto places 10 false number rest)
plain-digits_onto zero number rest plain = plain
plain-digits_onto (suc places) number rest plain =
    let more : List ℕ = digit_glyph false (number % 10) ∷ rest in
    let one : IsPlain more = plain_then _ rest (glyph_above (number % 10)) plain in
    elim (number / 10 == 0) as (λ last. IsPlain (if last then more
    else digits_onto places 10 false (number / 10) more))
    [ true ↦ one | false ↦ plain-digits_onto places (number / 10) more one ]

pub plain-decimal : (number : ℕ) → IsPlain (decimal number)
unfolding digits
plain-decimal number = plain-digits_onto 64 number [] refl

pub plain-letters : (pair : ℕ × ℕ) → AreCapitals pair → IsPlain (letters_of pair)
plain-letters pair capitals =
    plain_then pair.0 (pair.1 ∷ []) (omega (arith, capitals.0.0))
    (plain_then pair.1 [] (omega (arith, capitals.1.0)) refl)

plain-map : (character : ℕ → ℕ) (places : List ℕ) → ((place : ℕ) → 44 < character place)
    → IsPlain (map character places)
plain-map character [] above = refl
plain-map character (place ∷ places) above =
    plain_then (character place) (map character places) (above place) (plain-map character places above)

pub plain-digits : (serial : ℕ) → IsPlain (digits_of serial)
plain-digits serial =
    plain-map (λ place. character_of (digit_of serial place)) (1 ∷ 2 ∷ 3 ∷ 4 ∷ 5 ∷ 6 ∷ 7 ∷ 8 ∷ [])
    (λ place. omega arith)

pub plain-spelling : (id : Id) → IsId id → IsPlain (spelling_of id)
plain-spelling id valid =
    let check : List ℕ = character_of (check_digit_of id.serial) ∷ [] in
    plain-append (letters_of id.service ++ digits_of id.serial ++ check) (letters_of id.country)
    (plain-append (letters_of id.service ++ digits_of id.serial) check
    (plain-append (letters_of id.service) (digits_of id.serial)
    (plain-letters id.service valid.service) (plain-digits id.serial))
    (plain_then (character_of (check_digit_of id.serial)) [] (omega arith) refl))
    (plain-letters id.country valid.country)

plain-two_digits : (number : ℕ) → IsPlain (two_digits number)
plain-two_digits number =
    let ones : List ℕ = (48 + number % 10) ∷ [] in
    plain_then (48 + number / 10) ones (omega arith) (plain_then (48 + number % 10) [] (omega arith) refl)

pub plain-date : (date : Date) → IsPlain (date_text date)
plain-date date =
    let year = decimal date.year in
    let month = two_digits date.month in
    plain-append (year ++ codes "-" ++ month ++ codes "-") (two_digits date.day)
    (plain-append (year ++ codes "-" ++ month) (codes "-")
    (plain-append (year ++ codes "-") month
    (plain-append year (codes "-") (plain-decimal date.year) refl)
    (plain-two_digits date.month)) refl)
    (plain-two_digits date.day)

pub plain-yes_or_no : (closed : Bool) → IsPlain (yes_or_no closed)
plain-yes_or_no true = refl
plain-yes_or_no false = refl

pub plain-range_number : (range : Option Range) → IsPlain (range_number range)
plain-range_number None = refl
plain-range_number (Some range) = plain-decimal range.num

pub plain-state : (issuance : Issuance) (last : Option Issue) → IsPlain (state_of issuance last)
plain-state issuance None = refl
plain-state issuance (Some last) =
    elim (is_last issuance last) as (λ same. IsPlain (if same
    then (if last.voided then codes "voided" else codes "issued") else codes "reissued")) [
      | true ↦ elim last.voided as (λ voided. IsPlain (if voided then codes "voided"
          else codes "issued")) [ true ↦ refl | false ↦ refl ]
      | false ↦ refl
    ]

pub plain-text : (field : List ℕ) → IsPlain field → field_text record_writer field ≡ field
plain-text field plain = rw plain refl

plain-fields : (fields : List (List ℕ)) → ArePlain fields
    → fields_text record_writer fields ≡ after_commas fields
unfolding fields_text after_commas
plain-fields [] plain = refl
plain-fields (field ∷ fields) plain =
    rw (plain-text field plain.0, plain-fields fields plain.1) refl

-- The text of a record of two plain fields or more has commas between them and no quotes.
plain-record : (first second : List ℕ) (fields : List (List ℕ)) → IsPlain first
    → ArePlain (second ∷ fields)
    → row_text record_writer (first ∷ second ∷ fields) ≡ record_of first (second ∷ fields)
unfolding is_blank
plain-record first second fields one others =
    rw (plain-text first one, plain-fields (second ∷ fields) others) refl

-- A record of two plain fields or more that csv writes is its fields with commas between them.
pub record_written : {T E : Type 0} (u v : Option (List ℕ)) (r : Result T E)
    (first second : List ℕ) (fields : List (List ℕ)) → IsPlain first → ArePlain (second ∷ fields)
    → OnOk r (Appends u v (row_text record_writer (first ∷ second ∷ fields)))
    → OnOk r (Appends u v (record_of first (second ∷ fields)))
record_written u v r first second fields one others written =
    let P : List ℕ → Type 0 = λ text. OnOk r (Appends u v text) in
    subst P (plain-record first second fields one others) written
