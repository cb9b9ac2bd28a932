-- Decimal digits, and the number that they represent.
use Rattle.std.proofs.Common.{◌≡◌, ℕ, ◌+◌, ◌-◌, ◌*◌, ◌/◌, ◌%◌, ◌^◌, ◌<◌, ◌≤◌, List, [], ◌∷◌, length}
use Rattle.std.proofs.Common.{get_or, take, arith, lit<}
use Rattle.std.specs.Prelude.{fold}
use Rattle.std.specs.List.{AllByRecursion}
use Rattle.std.specs.Char.{IsAsciiDigit}
use Rattle.std.proofs.Math.Nat.{pow-le-pow_right, div-div-eq-div-mul, div-one, pow-suc}
use Rattle.std.proofs.lemmas.Grind.{pow_more}
use Rattle.std.proofs.lemmas.List.Sums.{fold_more}
use Rattle.s10_core.specs.Serial.{character_of, digits_of, number_of, check_digit_of}

-- A number of at most seven digits is below ten million.
pub below_ten_million : (number count : ℕ) → number < 10 ^ count → count < 8 → number < 10000000
below_ten_million number count small few =
    let widest : 10 ^ count ≤ 10 ^ 7 =
    pow-le-pow_right (lit< tt) (let h : count ≤ 7 = omega arith in h) in
    omega arith

-- The number of one more digit.
pub number_of-more : (digits : List ℕ) (i : ℕ) → i < length digits → number_of (take (i + 1) digits)
    ≡ 10 * number_of (take i digits) + (get_or digits i 0 - 48)
number_of-more digits i h = fold_more (λ number digit. 10 * number + (digit - 48)) 0 digits i 0 h

pub grows : (number count digit : ℕ) → number < 10 ^ count → digit ≤ 57 → 10 * number + (digit - 48)
    < 10 ^ (count + 1)
grows number count digit small in_range = let next : 10 ^ (count + 1) ≡ 10 ^ count * 10 =
    pow_more 10 count in omega arith

-- The number that a number and the digits after it represent.
abbrev followed_by : ℕ → List ℕ → ℕ
followed_by number digits = fold (λ n digit. 10 * n + (digit - 48)) number digits

-- Dividing removes the digits.
quotient : (digits : List ℕ) (number : ℕ) → AllByRecursion IsAsciiDigit digits
    → followed_by number digits / 10 ^ length digits ≡ number
quotient [] number all = div-one number
quotient (digit ∷ digits) number all =
    rw (
      pow-suc 10 (length digits),
      ← div-div-eq-div-mul,
      quotient digits (10 * number + (digit - 48)) all.1,
    ) (omega (arith, all.0))

-- A digit is found before those after it.
digit_found : (digits : List ℕ) (number digit : ℕ) → IsAsciiDigit digit
    → AllByRecursion IsAsciiDigit digits
    → character_of (followed_by (10 * number + (digit - 48)) digits / 10 ^ length digits % 10)
    ≡ digit
digit_found digits number digit here all = rw (quotient digits (10 * number + (digit - 48)) all)
    (omega (arith, here))

below_divisor : (number : ℕ) → number / 10 ^ 8 ≡ 0 → number < 10 ^ 8
below_divisor number e = omega arith

-- Eight digits are those of the number that they represent.
pub digits_of-number_of : (a b c d e f g h : ℕ)
    → AllByRecursion IsAsciiDigit (a ∷ b ∷ c ∷ d ∷ e ∷ f ∷ g ∷ h ∷ [])
    → digits_of (number_of (a ∷ b ∷ c ∷ d ∷ e ∷ f ∷ g ∷ h ∷ [])) ≡ a ∷ b ∷ c ∷ d ∷ e ∷ f ∷ g ∷ h
    ∷ []
digits_of-number_of a b c d e f g h all =
    let first = digit_found (b ∷ c ∷ d ∷ e ∷ f ∷ g ∷ h ∷ []) 0 a all.0 all.1 in
    let second = digit_found (c ∷ d ∷ e ∷ f ∷ g ∷ h ∷ []) (number_of (a ∷ [])) b all.1.0 all.1.1 in
    let third = digit_found (d ∷ e ∷ f ∷ g ∷ h ∷ []) (number_of (a ∷ b ∷ [])) c all.1.1.0
    all.1.1.1 in
    let fourth = digit_found (e ∷ f ∷ g ∷ h ∷ []) (number_of (a ∷ b ∷ c ∷ [])) d all.1.1.1.0
    all.1.1.1.1 in
    let fifth = digit_found (f ∷ g ∷ h ∷ []) (number_of (a ∷ b ∷ c ∷ d ∷ [])) e all.1.1.1.1.0
    all.1.1.1.1.1 in
    let sixth = digit_found (g ∷ h ∷ []) (number_of (a ∷ b ∷ c ∷ d ∷ e ∷ [])) f all.1.1.1.1.1.0
    all.1.1.1.1.1.1 in
    let seventh = digit_found (h ∷ []) (number_of (a ∷ b ∷ c ∷ d ∷ e ∷ f ∷ [])) g all.1.1.1.1.1.1.0
    all.1.1.1.1.1.1.1 in
    let eighth = digit_found [] (number_of (a ∷ b ∷ c ∷ d ∷ e ∷ f ∷ g ∷ [])) h all.1.1.1.1.1.1.1.0
    all.1.1.1.1.1.1.1.1 in
    λ i. first i ∷ second i ∷ third i ∷ fourth i ∷ fifth i ∷ sixth i ∷ seventh i ∷ eighth i ∷ []

-- Eight digits represent a serial number.
pub number_of-lt : (a b c d e f g h : ℕ)
    → AllByRecursion IsAsciiDigit (a ∷ b ∷ c ∷ d ∷ e ∷ f ∷ g ∷ h ∷ [])
    → number_of (a ∷ b ∷ c ∷ d ∷ e ∷ f ∷ g ∷ h ∷ []) < 10 ^ 8
number_of-lt a b c d e f g h all = below_divisor (number_of (a ∷ b ∷ c ∷ d ∷ e ∷ f ∷ g ∷ h ∷ []))
    (quotient (a ∷ b ∷ c ∷ d ∷ e ∷ f ∷ g ∷ h ∷ []) 0 all)

-- A digit joins those before it.
digit_joined : (number power : ℕ) → 10 * (number / (power * 10)) + number / power % 10
    ≡ number / power
digit_joined number power = rw (← div-div-eq-div-mul) (omega arith)

digit_is : (digit : ℕ) → character_of digit - 48 ≡ digit
digit_is digit = omega arith

-- q7 to q0 are a number without its last seven to zero digits; d6 to d0 are those digits.
joined : (q7 q6 q5 q4 q3 q2 q1 q0 d6 d5 d4 d3 d2 d1 d0 : ℕ) → 10 * q7 + d6 ≡ q6 → 10 * q6 + d5 ≡ q5
    → 10 * q5 + d4 ≡ q4 → 10 * q4 + d3 ≡ q3 → 10 * q3 + d2 ≡ q2 → 10 * q2 + d1 ≡ q1
    → 10 * q1 + d0 ≡ q0
    → number_of (character_of q7 ∷ character_of d6 ∷ character_of d5 ∷ character_of d4
    ∷ character_of d3 ∷ character_of d2 ∷ character_of d1 ∷ character_of d0 ∷ []) ≡ q0
joined q7 q6 q5 q4 q3 q2 q1 q0 d6 d5 d4 d3 d2 d1 d0 e6 e5 e4 e3 e2 e1 e0 =
    simp digit_is (omega arith)

-- A serial number is the one that its digits represent.
pub number_of-digits_of : (serial : ℕ) → serial < 10 ^ 8 → number_of (digits_of serial) ≡ serial
number_of-digits_of serial small =
    let first : serial / 10000000 % 10 ≡ serial / 10000000 = omega arith in
    let whole : serial / 1 ≡ serial = div-one serial in
    rw (first, whole) (joined (serial / 10000000) (serial / 1000000) (serial / 100000)
    (serial / 10000) (serial / 1000) (serial / 100) (serial / 10) serial
    (serial / 1000000 % 10) (serial / 100000 % 10) (serial / 10000 % 10) (serial / 1000 % 10)
    (serial / 100 % 10) (serial / 10 % 10) (serial % 10)
    (digit_joined serial 1000000) (digit_joined serial 100000) (digit_joined serial 10000)
    (digit_joined serial 1000) (digit_joined serial 100) (digit_joined serial 10) (omega arith))

pub check_digit_of-le : (serial : ℕ) → check_digit_of serial ≤ 9
unfolding check_digit_of
check_digit_of-le serial = grind arith
