-- Texts that spell an identifier, place by place.
use Rattle.std.proofs.Common.{◌≡◌, ℕ, ◌+◌, ◌-◌, ◌<◌, List, [], ◌∷◌, length, get_or, drop, refl, ap}
use Rattle.std.proofs.Common.{subst, sym, ◌∙◌, arith, inl, inr, below_none, below_more, zero, suc}
use Rattle.std.proofs.Common.{◌++◌, ◌%◌, ◌/◌, ◌^◌, rules, Option, Some, None}
use Rattle.std.proofs.lemmas.List.{drop_more}
use Rattle.std.proofs.lemmas.Bool.{cases_lt}
use Rattle.std.specs.Char.{IsAsciiDigit}
use Rattle.std.specs.List.{AllByRecursion}
use Rattle.std.specs.Prelude.{slice_range, All, SomeIff, IsSome}
use Rattle.s10_core.specs.declared.id.Id.{Id}
use Rattle.s10_core.specs.declared.text_fault.TextFault.{TextFault}
use Rattle.s10_core.specs.declared.text_fault.TextFault.TheVariants.{Length, Letter, Digit}
use Rattle.s10_core.specs.declared.text_fault.TextFault.TheVariants.{CheckDigit}
use Rattle.std.proofs.lemmas.List.Elements.{All-from_recursion, recursion_from_All}
use Rattle.std.proofs.lemmas.Grind.{common_steps}
use Rattle.s10_core.specs.Letters.{IsCapital, AreCapitals, letters_of}
use Rattle.s10_core.specs.Serial.{digits_of, number_of, check_digit_of, character_of}
use Rattle.s10_core.specs.Serial.{AreEightDigits}
use Rattle.s10_core.specs.Id.{IsId, Spells, spelling_of}
use Rattle.s10_core.specs.TextFault.{IsLetterPlace, IsDigitPlace, IsRightAt, IsRightBefore}
use Rattle.s10_core.specs.TextFault.{IsFirstRefusal}
use Rattle.s10_core.proofs.Decimals.{number_of-digits_of, digits_of-number_of, check_digit_of-le}
use Rattle.s10_core.proofs.Decimals.{number_of-lt}

-- The digits of a spelling represent its serial number.
pub number_of-spelled : (text : List ℕ) (id : Id) → Spells text id
    → number_of (slice_range text 2 10) ≡ id.serial
number_of-spelled text id s = rw s.spelled (number_of-digits_of id.serial s.in_range.serial)

right_letter : (text : List ℕ) (at : ℕ) → IsLetterPlace at → IsCapital (get_or text at 0)
    → IsRightAt text at
right_letter text at place capital = record {
  letter = λ _. capital;
  digit = λ other. absurd
      (elim place [
        | inl front ↦ omega (arith, other.0)
        | inr back ↦ omega (arith, other.1, back.0)
      ]);
}

right_digit : (text : List ℕ) (at : ℕ) → IsDigitPlace at → IsAsciiDigit (get_or text at 0)
    → IsRightAt text at
right_digit text at place digit = record {
  letter = λ other. absurd
      (elim other [
        | inl front ↦ omega (arith, place.0)
        | inr back ↦ omega (arith, place.1, back.0)
      ]);
  digit = λ _. digit;
}

is_digit : (number : ℕ) → IsAsciiDigit (character_of (number % 10))
is_digit number = (omega arith, omega arith)

check_is_digit : (serial : ℕ) → IsAsciiDigit (character_of (check_digit_of serial))
check_is_digit serial = let small = check_digit_of-le serial in (omega arith, omega arith)

-- A spelling is right at each place.
spelling_right : (id : Id) → IsId id → IsRightBefore (spelling_of id) 13
spelling_right id in_range =
    let text : List ℕ = spelling_of id in
    let P : ℕ → Type 0 = λ place. IsRightAt text place in
    let upto_0 = below_more P 0 (below_none P) (right_letter text 0 (inl (omega arith))
    in_range.service.0) in
    let upto_1 =
    below_more P 1 upto_0 (right_letter text 1 (inl (omega arith)) in_range.service.1) in
    let upto_2 =
    below_more P 2 upto_1 (right_digit text 2 (omega arith, omega arith)
    (is_digit (id.serial / 10 ^ (8 - 1)))) in
    let upto_3 =
    below_more P 3 upto_2 (right_digit text 3 (omega arith, omega arith)
    (is_digit (id.serial / 10 ^ (8 - 2)))) in
    let upto_4 =
    below_more P 4 upto_3 (right_digit text 4 (omega arith, omega arith)
    (is_digit (id.serial / 10 ^ (8 - 3)))) in
    let upto_5 =
    below_more P 5 upto_4 (right_digit text 5 (omega arith, omega arith)
    (is_digit (id.serial / 10 ^ (8 - 4)))) in
    let upto_6 =
    below_more P 6 upto_5 (right_digit text 6 (omega arith, omega arith)
    (is_digit (id.serial / 10 ^ (8 - 5)))) in
    let upto_7 =
    below_more P 7 upto_6 (right_digit text 7 (omega arith, omega arith)
    (is_digit (id.serial / 10 ^ (8 - 6)))) in
    let upto_8 =
    below_more P 8 upto_7 (right_digit text 8 (omega arith, omega arith)
    (is_digit (id.serial / 10 ^ (8 - 7)))) in
    let upto_9 =
    below_more P 9 upto_8 (right_digit text 9 (omega arith, omega arith)
    (is_digit (id.serial / 10 ^ (8 - 8)))) in
    let upto_10 = below_more P 10 upto_9 (right_digit text 10 (omega arith, omega arith)
    (check_is_digit id.serial)) in
    let upto_11 = below_more P 11 upto_10 (right_letter text 11 (inr (omega arith, omega arith))
    in_range.country.0) in
    below_more P 12 upto_11 (right_letter text 12 (inr (omega arith, omega arith))
    in_range.country.1)

pub spelled_right : (text : List ℕ) (id : Id) → Spells text id → IsRightBefore text 13
spelled_right text id s = rw s.spelled (spelling_right id s.in_range)

-- A text that spells an identifier has no refusal.
pub spelled_unrefused : (text : List ℕ) (id : Id) (fault : TextFault) → Spells text id
    → ¬ (IsFirstRefusal text fault)
spelled_unrefused text id Length s refused = refused (rw s.spelled refl)
spelled_unrefused text id (Letter at) s refused =
    let near : at < 13 = elim refused.2 [ inl front ↦ omega arith | inr back ↦ back.1 ] in
    refused.3 ((spelled_right text id s at near).letter refused.2)
spelled_unrefused text id (Digit at) s refused =
    let near : at < 13 = omega (arith, refused.2.1) in
    refused.3 ((spelled_right text id s at near).digit refused.2)
spelled_unrefused text id CheckDigit s refused =
    let number = number_of-spelled text id s in
    refused.2 (rw number (rw s.spelled refl))

-- Two wrong places that have no wrong place before them are the same.
leftmost : (text : List ℕ) (a b : ℕ) → ¬ (IsRightAt text a) → ¬ (IsRightAt text b)
    → IsRightBefore text a → IsRightBefore text b → a ≡ b
leftmost text a b wrong_a wrong_b before_a before_b = elim (cases_lt a b) [
  | inl less ↦ absurd (wrong_a (before_b a less))
  | inr not_less ↦ elim (cases_lt b a) [
    | inl more ↦ absurd (wrong_b (before_a b more))
    | inr
        not_more ↦ omega arith
  ]
]

-- A text has at most one first refusal.
pub one_refusal : (text : List ℕ) (e f : TextFault) → IsFirstRefusal text e → IsFirstRefusal text f
    → e ≡ f
one_refusal text Length Length x y = refl
one_refusal text Length (Letter b) x y = absurd (x y.0)
one_refusal text Length (Digit b) x y = absurd (x y.0)
one_refusal text Length CheckDigit x y = absurd (x y.0)
one_refusal text (Letter a) Length x y = absurd (y x.0)
one_refusal text (Letter a) (Letter b) x y =
    ap (λ at. Letter at) (leftmost text a b (λ right. x.3 (right.letter x.2))
    (λ right. y.3 (right.letter y.2)) x.1 y.1)
one_refusal text (Letter a) (Digit b) x y =
    let same : a ≡ b = leftmost text a b (λ right. x.3 (right.letter x.2))
    (λ right. y.3 (right.digit y.2)) x.1 y.1 in
    absurd (elim x.2 [ inl front ↦ omega (arith, y.2.0) | inr back ↦ omega (arith, y.2.1, back.0) ])
one_refusal text (Letter a) CheckDigit x y =
    let near : a < 13 = elim x.2 [ inl front ↦ omega arith | inr back ↦ back.1 ] in
    absurd (x.3 ((y.1 a near).letter x.2))
one_refusal text (Digit a) Length x y = absurd (y x.0)
one_refusal text (Digit a) (Letter b) x y =
    let same : a ≡ b = leftmost text a b (λ right. x.3 (right.digit x.2))
    (λ right. y.3 (right.letter y.2)) x.1 y.1 in
    absurd (elim y.2 [ inl front ↦ omega (arith, x.2.0) | inr back ↦ omega (arith, x.2.1, back.0) ])
one_refusal text (Digit a) (Digit b) x y =
    ap (λ at. Digit at) (leftmost text a b (λ right. x.3 (right.digit x.2))
    (λ right. y.3 (right.digit y.2)) x.1 y.1)
one_refusal text (Digit a) CheckDigit x y =
    let near : a < 13 = omega (arith, x.2.1) in
    absurd (x.3 ((y.1 a near).digit x.2))
one_refusal text CheckDigit Length x y = absurd (y x.0)
one_refusal text CheckDigit (Letter b) x y =
    let near : b < 13 = elim y.2 [ inl front ↦ omega arith | inr back ↦ back.1 ] in
    absurd (y.3 ((x.1 b near).letter y.2))
one_refusal text CheckDigit (Digit b) x y =
    let near : b < 13 = omega (arith, y.2.1) in
    absurd (y.3 ((x.1 b near).digit y.2))
one_refusal text CheckDigit CheckDigit x y = refl

-- `count` characters of the text, from an index on.
abbrev characters : List ℕ → ℕ → ℕ → List ℕ
characters text at zero = []
characters text at (suc count) = get_or text at 0 ∷ characters text (at + 1) count

listed : (text : List ℕ) (at count : ℕ) → at + count ≡ length text
    → drop at text ≡ characters text at count
listed text at zero h = grind (arith, common_steps)
listed text at (suc count) h = drop_more text at 0 (omega arith)
    ∙ ap (λ rest. get_or text at 0 ∷ rest) (listed text (at + 1) count (omega arith))

-- A text of 13 characters, character by character.
thirteen : (text : List ℕ) → length text ≡ 13 → text ≡ characters text 0 13
thirteen text long = listed text 0 13 (sym long)

-- The eight characters between the letters and the check digit.
serial_part : (text : List ℕ) → length text ≡ 13 → slice_range text 2 10 ≡ characters text 2 8
serial_part text long = ap (λ t. slice_range t 2 10) (thirteen text long)

serial_digits : (text : List ℕ) → IsRightBefore text 13
    → AllByRecursion IsAsciiDigit (characters text 2 8)
serial_digits text right =
    let digit : (at : ℕ) → IsDigitPlace at → IsAsciiDigit (get_or text at 0) =
    λ at place. (right at (omega (arith, place.1))).digit place in (
      digit 2 (omega arith, omega arith),
      (
        digit 3 (omega arith, omega arith),
        (
          digit 4 (omega arith, omega arith),
          (
            digit 5 (omega arith, omega arith),
            (
              digit 6 (omega arith, omega arith),
              (
                digit 7 (omega arith, omega arith),
                (digit 8 (omega arith, omega arith), (digit 9 (omega arith, omega arith), tt)),
              ),
            ),
          ),
        ),
      ),
    )

-- Eight digits are those of the number that they represent.
pub digits_of-number_of_text : (text : List ℕ) → AreEightDigits text → digits_of (number_of text)
    ≡ text
digits_of-number_of_text text eight =
    let at = λ (place : ℕ). get_or text place 0 in
    let whole : text ≡ characters text 0 8 = listed text 0 8 (sym eight.0) in
    let digits : AllByRecursion IsAsciiDigit (characters text 0 8) =
    subst (λ t. AllByRecursion IsAsciiDigit t) whole (recursion_from_All IsAsciiDigit text
    eight.1) in
    subst (λ t. digits_of (number_of t) ≡ t) (sym whole) (digits_of-number_of (at 0) (at 1) (at 2)
    (at 3) (at 4) (at 5) (at 6) (at 7) digits)

-- A text that is right at each place has eight digits where the serial number is.
pub right_serial : (text : List ℕ) → length text ≡ 13 → IsRightBefore text 13
    → AreEightDigits (slice_range text 2 10)
right_serial text long right =
    rw (serial_part text long) (
      refl,
      All-from_recursion IsAsciiDigit (characters text 2 8)
          (serial_digits text right),
    )

-- A text that is right at each place has capitals where the two pairs of letters are.
pub right_letters : (text : List ℕ) (at : ℕ) → IsRightBefore text 13 → IsLetterPlace at
    → IsLetterPlace (at + 1) → at + 1 < 13 → All IsCapital (characters text at 2)
right_letters text at right first second near =
    All-from_recursion IsCapital (characters text at 2) (
      (right at (omega arith)).letter first,
      ((right (at + 1) near).letter second, tt),
    )

-- A pair of letters that are capitals in the text consists of capitals.
pair_capitals : (pair : ℕ × ℕ) (a b : ℕ) → letters_of pair ≡ a ∷ b ∷ [] → IsCapital a → IsCapital b
    → AreCapitals pair
pair_capitals pair a b e first second =
    let same_first : pair.0 ≡ a = cc in
    let same_second : pair.1 ≡ b = cc in
    (rw same_first first, rw same_second second)

-- A text that is right at each place spells the identifier of its parts.
pub right_spells : (text : List ℕ) (id : Id) → length text ≡ 13 → IsRightBefore text 13
    → letters_of id.service ≡ characters text 0 2 → id.serial ≡ number_of (slice_range text 2 10)
    → get_or text 10 0 ≡ character_of (check_digit_of id.serial) → letters_of id.country
    ≡ characters text 11 2 → Spells text id
right_spells text id long right service serial check country =
    let all = serial_digits text right in
    let at = λ (place : ℕ). get_or text place 0 in
    let number : number_of (characters text 2 8) ≡ id.serial =
    sym (serial ∙ ap number_of (serial_part text long)) in
    let digits : characters text 2 8 ≡ digits_of id.serial =
    sym (digits_of-number_of (at 2) (at 3) (at 4) (at 5) (at 6) (at 7) (at 8) (at 9) all)
    ∙ ap digits_of number in
    let letter : (place : ℕ) → IsLetterPlace place → IsCapital (at place) =
    λ place here.
    (right place (elim here [ inl front ↦ omega arith | inr back ↦ back.1 ])).letter here in
    record {
      in_range = record {
        service = pair_capitals id.service (at 0) (at 1) service (letter 0 (inl (omega arith)))
            (letter 1 (inl (omega arith)));
        serial = rw (← number) (number_of-lt (at 2) (at 3) (at 4) (at 5) (at 6) (at 7) (at 8) (at 9)
            all);
        country = pair_capitals id.country (at 11) (at 12) country
            (letter 11 (inr (omega arith, omega arith)))
            (letter 12 (inr (omega arith, omega arith)));
      };
      spelled = thirteen text long ∙ (λ i. sym service i ++ digits i ++ check i ∷ []
          ++ sym country i);
    }

-- A text spells at most one identifier.
pub one_spelled : (text : List ℕ) (x y : Id) → Spells text x → Spells text y → x ≡ y
one_spelled text x y s t =
    let texts : spelling_of x ≡ spelling_of y = sym s.spelled ∙ t.spelled in
    let service_first : x.service.0 ≡ y.service.0 = ap (λ l. get_or l 0 0) texts in
    let service_second : x.service.1 ≡ y.service.1 = ap (λ l. get_or l 1 0) texts in
    let serial : x.serial ≡ y.serial = sym (number_of-spelled text x s) ∙ number_of-spelled text y
    t in
    let country_first : x.country.0 ≡ y.country.0 = ap (λ l. get_or l 11 0) texts in
    let country_second : x.country.1 ≡ y.country.1 = ap (λ l. get_or l 12 0) texts in
    λ i. record {
      service = (service_first i, service_second i);
      serial = serial i;
      country = (country_first i, country_second i);
    }

-- The result is Some if the fact holds.
pub is_some_where : {T : Type 0} (r : Option T) (P : Type 0) (v : T) → SomeIff r P v → P → IsSome r
is_some_where None P v not p = absurd (not p)
is_some_where (Some x) P v s p = search rules
