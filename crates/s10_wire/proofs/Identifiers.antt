-- The test of a text, and the identifier that it spells.
use Rattle.std.proofs.Common.{◌≡◌, ℕ, ◌+◌, ◌^◌, ◌%◌, ◌/◌, Bool, true, false, List, [], ◌∷◌, ◌++◌}
use Rattle.std.proofs.Common.{length, take, drop, refl, sym, ap, ◌∙◌, arith}
use Rattle.std.specs.Prelude.{nat_le, ◌&&◌, ◌==◌}
use Rattle.std.specs.Char.{IsAsciiDigit, is_ascii_digit}
use Rattle.std.specs.List.{AllByRecursion}
use Rattle.std.proofs.lemmas.Bool.{leb-true, eqb-true}
use Rattle.std.proofs.lemmas.List.{take-append-drop, drop-drop}
use Rattle.std.proofs.lemmas.Grind.{common_steps}
use Rattle.s10_core.specs.Letters.{IsCapital}
use Rattle.s10_core.specs.Serial.{number_of, check_digit_of, character_of}
use Rattle.s10_core.specs.Id.{IsId, Spells, spelling_of}
use Rattle.s10_core.specs.TextFault.{IsFirstRefusal}
use Rattle.s10_core.specs.declared.id.Id.{Id}
use Rattle.s10_core.specs.declared.text_fault.TextFault.{TextFault}
use Rattle.s10_core.proofs.Decimals.{number_of-digits_of, digits_of-number_of, number_of-lt}
use Rattle.s10_core.proofs.Spellings.{spelled_unrefused}
use Rattle.s10_wire.specs.WireFault.{is_capital, is_spelling}

both : (a b : Bool) → (a && b) ≡ true → (a ≡ true) × (b ≡ true)
both true b e = (refl, e)
both false b e = absurd cc

pub capital_passes : (c : ℕ) → IsCapital c → is_capital c ≡ true
capital_passes c ok = grind (arith, common_steps)

pub capital_of : (c : ℕ) → is_capital c ≡ true → IsCapital c
capital_of c e = let p = both (nat_le 65 c) (nat_le c 90) e in (leb-true _ _ p.0, leb-true _ _ p.1)

digit_of_test : (c : ℕ) → is_ascii_digit c ≡ true → IsAsciiDigit c
digit_of_test c e = let p = both (nat_le 48 c) (nat_le c 57) e in
    (leb-true _ _ p.0, leb-true _ _ p.1)

digit_passes : (n : ℕ) → is_ascii_digit (character_of (n % 10)) ≡ true
digit_passes n = grind (arith, common_steps)

same_passes : (n : ℕ) → (n == n) ≡ true
same_passes n = grind (arith, common_steps)

-- A text that passes the test spells the identifier in it.
passed : (a b d1 d2 d3 d4 d5 d6 d7 d8 k c d : ℕ)
    → is_spelling (a ∷ b ∷ d1 ∷ d2 ∷ d3 ∷ d4 ∷ d5 ∷ d6 ∷ d7 ∷ d8 ∷ k ∷ c ∷ d ∷ []) ≡ true
    → (id : Id) × Spells (a ∷ b ∷ d1 ∷ d2 ∷ d3 ∷ d4 ∷ d5 ∷ d6 ∷ d7 ∷ d8 ∷ k ∷ c ∷ d ∷ []) id
passed a b d1 d2 d3 d4 d5 d6 d7 d8 k c d e =
    let digits : List ℕ = d1 ∷ d2 ∷ d3 ∷ d4 ∷ d5 ∷ d6 ∷ d7 ∷ d8 ∷ [] in
    let p3 = both _ _ e in
    let p2 = both _ _ p3.0 in
    let p1 = both _ _ p2.0 in
    let front = both _ _ p1.0 in
    let back = both _ _ p3.1 in
    let e1 = both (is_ascii_digit d1) _ p1.1 in
    let e2 = both (is_ascii_digit d2) _ e1.1 in
    let e3 = both (is_ascii_digit d3) _ e2.1 in
    let e4 = both (is_ascii_digit d4) _ e3.1 in
    let e5 = both (is_ascii_digit d5) _ e4.1 in
    let e6 = both (is_ascii_digit d6) _ e5.1 in
    let e7 = both (is_ascii_digit d7) _ e6.1 in
    let e8 = both (is_ascii_digit d8) _ e7.1 in
    let all : AllByRecursion IsAsciiDigit digits = (
      digit_of_test d1 e1.0,
      (
        digit_of_test d2 e2.0,
        (
          digit_of_test d3 e3.0,
          (
            digit_of_test d4 e4.0,
            (
              digit_of_test d5 e5.0,
              (digit_of_test d6 e6.0, (digit_of_test d7 e7.0, (digit_of_test d8 e8.0, tt))),
            ),
          ),
        ),
      ),
    ) in
    let check : k ≡ character_of (check_digit_of (number_of digits)) = eqb-true _ _ p2.1 in
    let id : Id = record { service = (a, b); serial = number_of digits; country = (c, d) } in
    let in_range : IsId id = record {
      service = (capital_of a front.0, capital_of b front.1);
      serial = number_of-lt d1 d2 d3 d4 d5 d6 d7 d8 all;
      country =
          (capital_of c back.0, capital_of d back.1);
    } in (
      id,
      record {
        in_range = in_range;
        spelled = ap (λ (x : ℕ). a ∷ b ∷ digits ++ x ∷ c ∷ d ∷ [])
            check ∙ ap (λ (x : List ℕ). a ∷ b ∷ x ++ character_of
            (check_digit_of (number_of digits))
            ∷ c ∷ d ∷ []) (sym (digits_of-number_of d1 d2 d3 d4 d5 d6 d7 d8 all));
      },
    )

pub passed_text : (text : List ℕ) → length text ≡ 13 → is_spelling text ≡ true → (id : Id)
    × Spells text id
passed_text (a ∷ b ∷ d1 ∷ d2 ∷ d3 ∷ d4 ∷ d5 ∷ d6 ∷ d7 ∷ d8 ∷ k ∷ c ∷ d ∷ []) len e =
    passed a b d1 d2 d3 d4 d5 d6 d7 d8 k c d e
passed_text _ len e = absurd (omega arith)

-- A spelling passes the test.
pub spelling_passes : (id : Id) → IsId id → is_spelling (spelling_of id) ≡ true
spelling_passes id ok =
    rw (
      number_of-digits_of id.serial ok.serial,
      capital_passes id.service.0 ok.service.0,
      capital_passes id.service.1 ok.service.1,
      digit_passes (id.serial / 10 ^ 7),
      digit_passes (id.serial / 10 ^ 6),
      digit_passes (id.serial / 10 ^ 5),
      digit_passes (id.serial / 10 ^ 4),
      digit_passes (id.serial / 10 ^ 3),
      digit_passes (id.serial / 10 ^ 2),
      digit_passes (id.serial / 10 ^ 1),
      digit_passes (id.serial / 10 ^ 0),
      same_passes (character_of (check_digit_of id.serial)),
      capital_passes id.country.0 ok.country.0,
      capital_passes id.country.1 ok.country.1,
    ) refl

pub spells_passes : (text : List ℕ) (id : Id) → Spells text id → is_spelling text ≡ true
spells_passes text id s = ap is_spelling s.spelled ∙ spelling_passes id s.in_range

fails_of : (t : Bool) → (t ≡ true → ⊥) → t ≡ false
fails_of true wrong = absurd (wrong refl)
fails_of false wrong = refl

-- A text that is refused fails the test.
pub refused_fails : (text : List ℕ) (fault : TextFault) → length text ≡ 13
    → IsFirstRefusal text fault → is_spelling text ≡ false
refused_fails text fault len refused =
    fails_of (is_spelling text) (λ e. let p = passed_text text len e in
    spelled_unrefused text p.0 fault p.1 refused)

-- The spelling of the identifier is at the offset.
pub stands_at : (b : List ℕ) (at : ℕ) (id : Id) → Spells (take 13 (drop at b)) id
    → drop at b ≡ spelling_of id ++ drop (at + 13) b
stands_at b at id s = sym (take-append-drop 13 (drop at b))
    ∙ ap (λ (x : List ℕ). x ++ drop 13 (drop at b)) s.spelled
    ∙ ap (λ (x : List ℕ). spelling_of id ++ x) (drop-drop 13 at b)
