use Rattle.std.proofs.Common.{rules, ◌≡◌, arith, sym, ap, subst, Result, Ok, Err, IfErr, IsErrAnd}
use Rattle.std.proofs.Common.{get_or, inl, inr, [], ◌∷◌}
use Rattle.std.specs.Prelude.{slice_range}
use Rattle.s10_core.specs.declared.text_fault.TextFault.{TextFault}
use Rattle.s10_core.specs.declared.text_fault.TextFault.TheVariants.{CheckDigit}
use Rattle.s10_core.specs.Letters.{letters_of}
use Rattle.s10_core.specs.Serial.{number_of}
use Rattle.s10_core.specs.TextFault.{IsRightBefore, IsFirstRefusal}
use Rattle.s10_core.proofs.Spellings.{spelled_unrefused, right_letters, right_serial, right_spells}
use Rattle.s10_core.proofs.Spellings.{one_spelled, is_some_where}
use Rattle.s10_core.proofs.id.Id.read.Goals as goal

-- A returned refusal is the one that the inner call gave.
passed_up : {T : Type 0} (r : Result T TextFault) (fault : TextFault) (P : TextFault → Type 0)
    → IsErrAnd r (λ e. e ≡ fault) → P fault → IfErr r P
passed_up (Ok x) fault P is p = tt
passed_up (Err e) fault P is p = subst P (sym is) p

pub returns-in_err-check_places-clause-spelled : goal.returns-in_err-check_places-clause-spelled
returns-in_err-check_places-clause-spelled c id s =
    absurd (spelled_unrefused c.args.text.now id _ s c.in_err-check_places.ensures.refused)

pub returns-in_err-check_places-clause-refused : goal.returns-in_err-check_places-clause-refused
returns-in_err-check_places-clause-refused c =
    passed_up c.from_residual.result c.in_err-check_places.field-0.0
    (IsFirstRefusal c.args.text.now) c.from_residual.ensures.1
    c.in_err-check_places.ensures.refused

pub unwrap-service-requires : goal.unwrap-service-requires
unwrap-service-requires c =
    let right : IsRightBefore c.args.text.now 13 = c.in_ok-check_places.ensures.ok in
    let letters = right_letters c.args.text.now 0 right (inl (omega arith)) (inl (omega arith))
    (omega arith) in
    search rules

pub unwrap-serial-requires : goal.unwrap-serial-requires
unwrap-serial-requires c =
    let right : IsRightBefore c.args.text.now 13 = c.in_ok-check_places.ensures.ok in
    is_some_where _ _ _ c.read.ensures (right_serial c.args.text.now (omega arith) right)

pub unwrap-country-requires : goal.unwrap-country-requires
unwrap-country-requires c =
    let right : IsRightBefore c.args.text.now 13 = c.in_ok-check_places.ensures.ok in
    let letters = right_letters c.args.text.now 11 right (inr (omega arith, omega arith))
    (inr (omega arith, omega arith)) (omega arith) in
    search rules

pub returns-then-text-check_digit-clause-refused : goal.returns-then-text-check_digit-clause-refused
returns-then-text-check_digit-clause-refused c =
    let right : IsRightBefore c.args.text.now 13 = c.in_ok-check_places.ensures.ok in
    let serial : number_of (slice_range c.args.text.now 2 10) ≡ c.unwrap-serial.result =
    sym (rw c.unwrap-serial.ensures at c.read.ensures).1 in (
      omega arith,
      right,
      rw serial (λ e. c.if-text-check_digit.true (rw c.check_digit.ensures.digit e)),
    )

pub returns-then-text-check_digit-clause-spelled : goal.returns-then-text-check_digit-clause-spelled
returns-then-text-check_digit-clause-spelled c id s =
    absurd (spelled_unrefused c.args.text.now id CheckDigit s
    (returns-then-text-check_digit-clause-refused c))

pub returns-clause-ok : goal.returns-clause-ok
returns-clause-ok c =
    let right : IsRightBefore c.args.text.now 13 = c.in_ok-check_places.ensures.ok in
    let service : letters_of c.unwrap-service.result ≡ get_or c.args.text.now 0 0
    ∷ get_or c.args.text.now 1 0 ∷ [] = rw c.unwrap-service.ensures at c.new.ensures.letters in
    let country : letters_of c.unwrap-country.result ≡ get_or c.args.text.now 11 0
    ∷ get_or c.args.text.now 12 0 ∷ [] =
    rw c.unwrap-country.ensures at c.new-2.ensures.letters in
    let serial : c.unwrap-serial.result ≡ number_of (slice_range c.args.text.now 2 10) =
    (rw c.unwrap-serial.ensures at c.read.ensures).1 in
    right_spells c.args.text.now _ (omega arith) right service serial
    (omega (arith, c.if-text-check_digit.false, c.check_digit.ensures.digit)) country

pub returns-clause-spelled : goal.returns-clause-spelled
returns-clause-spelled c id s =
    ap (λ x. Ok x) (one_spelled c.args.text.now _ id (returns-clause-ok c) s)
