-- Decimal numbers without leading zeros, and what is before a separator.
use Rattle.std.proofs.Common.{◌≡◌, ◌≢◌, ℕ, zero, suc, ◌+◌, ◌-◌, ◌^◌, ◌<◌, ◌≤◌, Bool, true, false}
use Rattle.std.proofs.Common.{cond, eqb, List, ◌∷◌, ◌++◌, length, get_or, take, drop, Some}
use Rattle.std.proofs.Common.{None, Result, Ok, Err, refl, sym, ap, ◌∙◌, arith, subst}
use Rattle.std.proofs.Common.{length-append}
use Rattle.std.specs.Prelude.{IfSome, MatchResult, position, decimal, ◌==◌, nat_lt}
use Rattle.std.specs.Result.{result_ok}
use Rattle.std.specs.List.{position_or_len}
use Rattle.std.specs.Char.{IsAsciiDigit}
use Rattle.std.specs.Int.{IsInRange}
use Rattle.std.specs.Str.Parse.{AllDigits, digits_value, ParsesUnsigned}
use Rattle.std.proofs.lemmas.Fmt.{decimal_is_IsNumeral, decimal_digit, decimal_nonempty}
use Rattle.std.proofs.lemmas.Fmt.{first_decimal, parse-decimal, decimal-digits_value}
use Rattle.std.proofs.lemmas.Str.Parse.{IsNumeralModel, numerals_by_value, tells_digits, digit_at}
use Rattle.std.proofs.lemmas.Str.Parse.{parse_plain}
use Rattle.std.proofs.lemmas.List.Sums.{position_or_len_is}
use Rattle.std.proofs.lemmas.Bool.{eqb-true, eq-eqb, false_from_ne_true, ltb-true, lt-ltb}
use Rattle.std.proofs.lemmas.List.{get_or_append_left, take_all, length-drop}
use Rattle.std.proofs.Math.Seq.{get_or-append_seam, take-append_seam, drop-append_seam}
use Rattle.std.proofs.lemmas.Option.{same_Some, none-some}

own : IsNumeralModel (AllDigits 10) (digits_value 10)
own = numerals_by_value (AllDigits 10) tells_digits

-- A number begins with a digit.
pub first_digit : (n : ℕ) → n < 2 ^ 64 → IsInRange 48 57 (get_or (decimal n) 0 0)
first_digit n h = digit_at (decimal n) 0 (decimal_is_IsNumeral n h).0.1
    (decimal_nonempty n h)

-- A number that begins with a zero has one digit.
pub no_leading_zero : (n : ℕ) → n < 2 ^ 64 → get_or (decimal n) 0 0 ≡ 48 → length (decimal n) ≡ 1
no_leading_zero zero h first = ap length (decimal_digit 0 (omega arith))
no_leading_zero (suc n) h first = let above : 48 < get_or (decimal (suc n)) 0 0 =
    first_decimal (suc n) (omega arith) h in absurd (omega (arith, above))

-- A parsed number is the one that the text spells.
pub parsed_number : {E : Type 0} → (bs : List ℕ) (r : Result ℕ E) → ParsesUnsigned 64 10 bs r
    → get_or bs 0 0 ≢ 43 → (get_or bs 0 0 ≡ 48 → length bs ≤ 1)
    → IfSome (result_ok r) (λ n. bs ≡ decimal n)
parsed_number {E} bs (Ok x) parses plain single =
    let read = parse_plain own {E = E} 64 bs (Ok x) parses plain in
    let alone : get_or bs 0 0 ≡ 48 → length bs ≡ 1 = λ z. let short : length bs ≤ 1 = single z in
    omega (arith, read.0.1, short) in
    let same : decimal (digits_value 10 bs) ≡ bs = decimal-digits_value own bs read.0.0 read.0.1
    alone (omega (arith, read.0.2)) in
    sym same ∙ ap decimal (sym read.1)
parsed_number {E} bs (Err e) parses plain single = tt

-- A number that the text spells is parsed.
pub number_parsed : {E : Type 0} → (bs : List ℕ) (r : Result ℕ E) → ParsesUnsigned 64 10 bs r
    → (n : ℕ) → n < 2 ^ 64 → bs ≡ decimal n → result_ok r ≡ Some n
number_parsed bs r parses n h is = ap result_ok (parse-decimal 64 n bs r h h is parses)

-- The text has no such byte.
abbrev pub Lacks : List ℕ → ℕ → Type 0
Lacks xs sep = (k : ℕ) → k < length xs → get_or xs k 0 ≢ sep

-- A number has digits alone.
pub number_lacks : (n sep : ℕ) → n < 2 ^ 64 → ¬ (IsAsciiDigit sep) → Lacks (decimal n) sep
number_lacks n sep h other =
    let all : AllDigits 10 (decimal n) = (decimal_is_IsNumeral n h).0.1 in
    λ k low same. other (subst IsAsciiDigit same (digit_at (decimal n) k all low))

-- The index of the first separator after a text without one.
pub position_after : (xs rest : List ℕ) (sep : ℕ) → Lacks xs sep
    → position (λ b. b == sep) (xs ++ sep ∷ rest) ≡ Some (length xs)
position_after xs rest sep lacks =
    let whole : List ℕ = xs ++ sep ∷ rest in
    let len : length whole ≡ length xs + suc (length rest) = length-append xs (sep ∷ rest) in
    let before : (k : ℕ) → k < length xs → eqb (get_or whole k 0) sep ≡ false = λ k low.
    false_from_ne_true _ (λ same. lacks k low
    (sym (get_or_append_left xs (sep ∷ rest) 0 k low) ∙ eqb-true _ _ same)) in
    let here : length xs < length whole → eqb (get_or whole (length xs) 0) sep ≡ true =
    λ _. eq-eqb _ _ (get_or-append_seam xs sep rest 0) in
    let is : position_or_len (λ b. b == sep) whole ≡ length xs =
    position_or_len_is (λ b. b == sep) whole (length xs) 0 (omega (arith, len)) before here in
    let low : nat_lt (length xs) (length whole) ≡ true =
    lt-ltb (length xs) (length whole) (omega (arith, len)) in
    rw (is, low) refl

-- The index that was found is within the text.
pub within_text : (sep : ℕ) (xs : List ℕ) (at : ℕ) → position (λ b. b == sep) xs ≡ Some at
    → at < length xs
within_text sep xs at found = found_at (nat_lt (position_or_len p xs) (length xs)) refl found
  where
    p : ℕ → Bool
    p b = b == sep

    found_at : (b : Bool) → nat_lt (position_or_len p xs) (length xs) ≡ b
        → cond b (Some (position_or_len p xs)) None ≡ Some at → at < length xs
    found_at true low is =
        let short : position_or_len p xs < length xs = ltb-true _ _ low in
        let place : position_or_len p xs ≡ at = cc in
        subst (λ (k : ℕ). k < length xs) place short
    found_at false low is = absurd cc

-- What is before a separator is the text up to its index, and the separator follows.
pub cut_after : (xs : List ℕ) (at : ℕ) (front rest : List ℕ) (sep : ℕ) → Lacks front sep
    → xs ≡ front ++ sep ∷ rest → Some at ≡ position (λ b. b == sep) xs
    → (take at xs ≡ front) × (drop at xs ≡ sep ∷ rest)
cut_after xs at front rest sep lacks is found =
    let place : at ≡ length front = same_Some at (length front)
    (found ∙ ap (position (λ b. b == sep)) is ∙ position_after front rest sep lacks) in (
      rw (place, is) (take-append_seam front (sep ∷ rest)),
      rw (place, is) (drop-append_seam front (sep ∷ rest)),
    )

-- A text with a separator has an index of it.
pub place_after : (xs front rest : List ℕ) (sep : ℕ) → Lacks front sep → xs ≡ front ++ sep ∷ rest
    → None ≡ position (λ b. b == sep) xs → ⊥
place_after xs front rest sep lacks is found = none-some _
    (found ∙ ap (position (λ b. b == sep)) is ∙ position_after front rest sep lacks)

-- A property of a result holds of the value in it.
pub taken : {A E : Type 0} → (r : Result A E) (P : A → Type 0) (Q : E → Type 0) (x : A)
    → MatchResult r P Q → Some x ≡ result_ok r → P x
taken (Ok y) P Q x holds is = subst P (same_Some y x (sym is)) holds
taken (Err e) P Q x holds is = absurd (none-some x (sym is))

pub refused : {A E : Type 0} → (r : Result A E) (P : A → Type 0) (Q : E → Type 0)
    → MatchResult r P Q → None ≡ result_ok r → (e : E) × Q e
refused (Ok y) P Q holds is = absurd (none-some y is)
refused (Err e) P Q holds is = (e, holds)

pub behind : (xs : List ℕ) (k : ℕ) → take (length xs - k) (drop k xs) ≡ drop k xs
behind xs k = take_all (length xs - k) (drop k xs) (omega (arith, length-drop k xs))
