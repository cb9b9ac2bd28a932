use Rattle.std.proofs.Common.{◌≡◌, ◌≤◌, ◌<◌, length, get_or, sym, ◌∙◌, arith}
use Rattle.std.specs.Prelude.{decimal}
use Rattle.std.specs.Int.{IsInRange}
use Rattle.std.proofs.lemmas.Bool.{eqb-true}
use Rattle.std.proofs.lemmas.Fmt.{IsAscii-decimal, decimal_nonempty}
use Rattle.std.proofs.lemmas.Str.{IsUtf8-from_ascii}
use Rattle.s10_notes.proofs.Numerals.{first_digit, no_leading_zero, parsed_number, number_parsed}
use Rattle.s10_notes.proofs.Numerals.{taken, refused}
use Rattle.s10_notes.proofs.reading.read_number.Goals as goal
use Rattle.s10_notes.proofs.reading.read_number.Goals.{then-is_empty-via-then-is_empty}
use Rattle.s10_notes.proofs.reading.read_number.Goals.{then-is_empty-via-else-is_empty+then-digits-eq43}
use Rattle.s10_notes.proofs.reading.read_number.Goals.{else-digits-eq48-via-then-digits-eq48+else-digits-gt1}
use Rattle.s10_notes.proofs.reading.read_number.Goals.{else-digits-eq48-via-else-digits-eq48}

pub returns-then-is_empty-clause-read : goal.returns-then-is_empty-clause-read
returns-then-is_empty-clause-read c = λ n small is.
    let some : 0 < length c.args.digits.now = rw is (decimal_nonempty n small) in
    let digit : IsInRange 48 57 (get_or c.args.digits.now 0 0) = rw is (first_digit n small) in
    elim c.then-is_empty.branch [
      | then-is_empty-via-then-is_empty w ↦
          let none : length c.args.digits.now ≡ 0 =
          eqb-true _ _ (sym c.is_empty.ensures ∙ w.if-is_empty.true) in
          absurd (omega (arith, none, some))
      | then-is_empty-via-else-is_empty+then-digits-eq43 w ↦ absurd
          (omega (arith, w.if-digits-eq43.true, digit.0))
    ]

pub returns-then-digits-gt1-clause-read : goal.returns-then-digits-gt1-clause-read
returns-then-digits-gt1-clause-read c = λ n small is.
    let zero' : get_or (decimal n) 0 0 ≡ 48 = rw (← is) c.if-digits-eq48.true in
    let one : length c.args.digits.now ≡ 1 = rw is (no_leading_zero n small zero') in
    absurd (omega (arith, one, c.if-digits-gt1.true))

pub returns-in_err-ok-clause-read : goal.returns-in_err-ok-clause-read
returns-in_err-ok-clause-read c = λ n small is.
    let no_text = refused c.from_utf8.result _ _ c.from_utf8.ensures.cases
    c.in_err-ok.ensures.value in
    absurd (no_text.1.0 (rw is (IsUtf8-from_ascii (decimal n) (IsAscii-decimal n small))))

pub returns-clause-spelled : goal.returns-clause-spelled
returns-clause-spelled c =
    let text = taken c.from_utf8.result _ _ c.in_ok-ok.field-0 c.from_utf8.ensures.cases
    c.in_ok-ok.ensures.value in
    let single : get_or c.args.digits.now 0 0 ≡ 48 → length c.args.digits.now ≤ 1 =
    λ first. elim c.else-digits-eq48.branch [
      | else-digits-eq48-via-then-digits-eq48+else-digits-gt1 w ↦ omega (
        arith,
        w.if-digits-gt1.false,
      )
      | else-digits-eq48-via-else-digits-eq48 w ↦ absurd (w.if-digits-eq48.false first)
    ] in
    rw c.ok-2.ensures.value (parsed_number c.args.digits.now c.parse.result
    (rw text.0 at c.parse.ensures.value.0) c.if-digits-eq43.false single)

pub returns-clause-read : goal.returns-clause-read
returns-clause-read c = λ n small is.
    let text = taken c.from_utf8.result _ _ c.in_ok-ok.field-0 c.from_utf8.ensures.cases
    c.in_ok-ok.ensures.value in
    c.ok-2.ensures.value ∙ number_parsed c.args.digits.now c.parse.result
    (rw text.0 at c.parse.ensures.value.0) n small is
