use Rattle.std.proofs.Common.{◌≡◌, ℕ, ◌<◌, ◌++◌, Bool, not, cond, nat_lt, List, [], ◌∷◌, drop}
use Rattle.std.proofs.Common.{Option, Some, None, sym, ap, ◌∙◌, arith}
use Rattle.std.specs.Prelude.{◌==◌, ◌&&◌}
use Rattle.std.proofs.lemmas.Bool.{ne_eqb, lt-ltb}
use Rattle.s10_wire.specs.declared.kind.Kind.TheVariants.{Query}
use Rattle.s10_wire.specs.declared.wire_fault.WireFault.{WireFault}
use Rattle.s10_wire.specs.declared.wire_fault.WireFault.TheVariants.{Field}
use Rattle.s10_wire.specs.Datagrams.{u32_bytes}
use Rattle.s10_wire.specs.WireFault.{byte, number, first_refusal, done_fields}
use Rattle.s10_wire.proofs.Done.{after_byte}
use Rattle.s10_wire.proofs.reply_decoder.status_at.Goals as goal

-- The refusals of a status and its day.
abbrev status_refusal : ℕ → ℕ → Option WireFault
status_refusal code day =
    first_refusal ((nat_lt 3 code, Field 26) ∷ (nat_lt code 2 && not (day == 0), Field 27) ∷ [])

stands_refused : (b : List ℕ) (code day : ℕ) → byte b 26 ≡ code → day ≡ number b 27
    → status_refusal code day ≡ first_refusal (done_fields Query b)
stands_refused b code day is value = ap (λ (n : ℕ). status_refusal n day) (sym is)
    ∙ ap (λ (n : ℕ). status_refusal (byte b 26) n) value

-- A day other than 0 is refused.
refused_day : (day : ℕ) → ¬ (day ≡ 0) → Some (Field 27) ≡ cond (not (day == 0)) (Some (Field 27))
    None
refused_day day other = ap (λ (t : Bool). cond (not t) (Some (Field 27)) None)
    (sym (ne_eqb day 0 other))

pub bounds-bytes-26 : goal.bounds-bytes-26
bounds-bytes-26 c = omega arith

pub number_at-day-requires : goal.number_at-day-requires
number_at-day-requires c = c.requires

pub returns-in-0-clause-read : goal.returns-in-0-clause-read
returns-in-0-clause-read c =
    let b = c.args.bytes.now in (
      tt,
      after_byte b _ 26 0 (omega arith) c.in-0.is (c.number_at-day.ensures.read
          ∙ ap (λ (n : ℕ). u32_bytes n ++ drop 31 b) c.if-day-eq0.true),
    )

pub returns-in-0-clause-refused : goal.returns-in-0-clause-refused
returns-in-0-clause-refused c = stands_refused c.args.bytes.now 0 0 c.in-0.is (sym c.if-day-eq0.true
    ∙ c.number_at-day.ensures.value)

pub returns-in-1-clause-read : goal.returns-in-1-clause-read
returns-in-1-clause-read c =
    let b = c.args.bytes.now in (
      tt,
      after_byte b _ 26 1 (omega arith) c.in-1.is (c.number_at-day.ensures.read
          ∙ ap (λ (n : ℕ). u32_bytes n ++ drop 31 b) c.if-day-eq0-2.true),
    )

pub returns-in-1-clause-refused : goal.returns-in-1-clause-refused
returns-in-1-clause-refused c = stands_refused c.args.bytes.now 1 0 c.in-1.is
    (sym c.if-day-eq0-2.true ∙ c.number_at-day.ensures.value)

pub returns-in-2-clause-read : goal.returns-in-2-clause-read
returns-in-2-clause-read c = (
  c.number_at-day.type_inv,
  after_byte c.args.bytes.now _ 26 2 (omega arith) c.in-2.is
      c.number_at-day.ensures.read,
)

pub returns-in-2-clause-refused : goal.returns-in-2-clause-refused
returns-in-2-clause-refused c = stands_refused c.args.bytes.now 2 c.number_at-day.result c.in-2.is
    c.number_at-day.ensures.value

pub returns-in-3-clause-read : goal.returns-in-3-clause-read
returns-in-3-clause-read c = (
  c.number_at-day.type_inv,
  after_byte c.args.bytes.now _ 26 3 (omega arith) c.in-3.is
      c.number_at-day.ensures.read,
)

pub returns-in-3-clause-refused : goal.returns-in-3-clause-refused
returns-in-3-clause-refused c = stands_refused c.args.bytes.now 3 c.number_at-day.result c.in-3.is
    c.number_at-day.ensures.value

pub returns-in-0-2-clause-read : goal.returns-in-0-2-clause-read
returns-in-0-2-clause-read c = tt

pub returns-in-0-2-clause-refused : goal.returns-in-0-2-clause-refused
returns-in-0-2-clause-refused c =
    refused_day c.number_at-day.result c.if-day-eq0.false ∙ stands_refused c.args.bytes.now 0
    c.number_at-day.result c.in-0.is c.number_at-day.ensures.value

pub returns-in-0-2-2-clause-read : goal.returns-in-0-2-2-clause-read
returns-in-0-2-2-clause-read c = tt

pub returns-in-0-2-2-clause-refused : goal.returns-in-0-2-2-clause-refused
returns-in-0-2-2-clause-refused c =
    refused_day c.number_at-day.result c.if-day-eq0-2.false ∙ stands_refused c.args.bytes.now 1
    c.number_at-day.result c.in-1.is c.number_at-day.ensures.value

pub returns-in_default-clause-read : goal.returns-in_default-clause-read
returns-in_default-clause-read c = tt

pub returns-in_default-clause-refused : goal.returns-in_default-clause-refused
returns-in_default-clause-refused c =
    let b = c.args.bytes.now in
    let above : 3 < byte b 26 = omega arith in
    ap (λ (t : Bool). cond t (Some (Field 26))
    (first_refusal ((nat_lt (byte b 26) 2 && not (number b 27 == 0), Field 27) ∷ [])))
    (sym (lt-ltb 3 (byte b 26) above))
