use Rattle.std.proofs.Common.{◌≡◌, ℕ, ◌<◌, ◌+◌, ◌-◌, ◌*◌, [], List, Some, length, sym, refl, ap}
use Rattle.std.proofs.Common.{◌∙◌, subst, take, arith}
use Rattle.std.specs.Prelude.{All}
use Rattle.std.proofs.lemmas.Result.{err_from_is_err_and}
use Rattle.std.proofs.lemmas.List.{take_more_set, length-set}
use Rattle.std.proofs.lemmas.List.Elements.{All-nil, All-cons, All-push}
use Rattle.s10_core.specs.declared.id.Id.{Id}
use Rattle.s10_core.specs.Id.{IsId}
use Rattle.s10_wire.specs.WireFault.{first_refusal, identifier_fields}
use Rattle.s10_wire.proofs.Many.{read_ids, passed_one, refused_one, read_more, passed_more}
use Rattle.s10_wire.proofs.Many.{refused_here}
use Rattle.s10_wire.proofs.reply_decoder.ids_at.Goals as goal

pub value-count-requires : goal.value-count-requires
value-count-requires c = tt

pub overflow_cast-count : goal.overflow_cast-count
overflow_cast-count c = omega (arith, c.value-count.ensures.in_range.1)

pub id_at-requires : goal.id_at-requires
id_at-requires c = omega (arith, c.value-count.ensures.in_range.0)

pub returns-in_err-room-clause-read : goal.returns-in_err-room-clause-read
returns-in_err-room-clause-read c =
    rw (err_from_is_err_and c.from_residual.result c.from_residual.ensures.1).1 tt

pub returns-in_err-room-clause-refused : goal.returns-in_err-room-clause-refused
returns-in_err-room-clause-refused c =
    let p = err_from_is_err_and c.from_residual.result c.from_residual.ensures.1 in
    rw (p.1, p.2) (ap Some c.in_err-room.ensures.err.0
    ∙ sym (refused_one 22 c.args.count c.args.bytes.now c.value-count.ensures.in_range.0
    c.in_err-room.ensures.err.1))

pub returns-in_err-room-2-clause-read : goal.returns-in_err-room-2-clause-read
returns-in_err-room-2-clause-read c =
    rw (err_from_is_err_and c.from_residual-in_err-room-2.result
    c.from_residual-in_err-room-2.ensures.1).1 tt

pub overflow_cast-place : goal.overflow_cast-place
overflow_cast-place c = omega (
  arith,
  c.loop-place.invariant.long,
  c.loop-place-test.true,
  c.value-count.ensures.in_range.1,
  c.value-count.ensures.value,
)

pub overflow_mul-place : goal.overflow_mul-place
overflow_mul-place c = omega (
  arith,
  c.loop-place.invariant.long,
  c.loop-place-test.true,
  c.value-count.ensures.in_range.1,
  c.value-count.ensures.value,
)

pub overflow_add-place : goal.overflow_add-place
overflow_add-place c = omega (
  arith,
  c.loop-place.invariant.long,
  c.loop-place-test.true,
  c.value-count.ensures.in_range.1,
  c.value-count.ensures.value,
)

pub id_at-requires-in-loop-place : goal.id_at-requires-in-loop-place
id_at-requires-in-loop-place c = omega (
  arith,
  c.loop-place.invariant.long,
  c.loop-place-test.true,
  c.value-count.ensures.in_range.1,
  c.value-count.ensures.value,
)

pub listed : goal.listed
listed c = omega (
  arith,
  c.loop-place.invariant.long,
  c.loop-place-test.true,
  c.value-count.ensures.in_range.1,
  c.value-count.ensures.value,
)

pub shared_whole_as_front-new : goal.shared_whole_as_front-new
shared_whole_as_front-new c =
    (omega (arith, c.value-count.ensures.in_range.1, c.value-count.ensures.value), omega arith)

pub new-requires : goal.new-requires
new-requires c = tt

pub returns-clause-refused : goal.returns-clause-refused
returns-clause-refused c =
    let b = c.args.bytes.now in
    let none : c.value-count.result - c.loop-place.place ≡ 0 =
    omega (arith, c.loop-place-test.false) in
    ap (λ (n : ℕ). first_refusal (identifier_fields (22 + 13 * c.loop-place.place) n b)) (sym none)
    ∙ sym c.loop-place.invariant.passed
    ∙ ap (λ (n : ℕ). first_refusal (identifier_fields 22 n b)) c.value-count.ensures.value

pub loop-place-init : goal.loop-place-init
loop-place-init c = record {
  some = omega arith;
  upto = omega (arith, c.value-count.ensures.in_range.0);
  long = refl;
  in_range = All-cons IsId c.in_ok-room.field-0 [] c.in_ok-room.ensures.read.0 (All-nil IsId);
  read = c.in_ok-room.ensures.read.1;
  passed = passed_one 22 c.value-count.result c.args.bytes.now
      (omega (arith, c.value-count.ensures.in_range.0)) c.in_ok-room.ensures.ok;
}

pub returns-in_err-room-2-clause-refused : goal.returns-in_err-room-2-clause-refused
returns-in_err-room-2-clause-refused c =
    let p = err_from_is_err_and c.from_residual-in_err-room-2.result
    c.from_residual-in_err-room-2.ensures.1 in
    rw (p.1, p.2) (refused_here c.args.bytes.now c.loop-place.place _ c.value-count.result
    c.args.count c.in_err-room-2.field-0.0 c.loop-place-test.true refl
    c.value-count.ensures.value c.loop-place.invariant.passed c.in_err-room-2.ensures.err)

pub loop-place-preserved : goal.loop-place-preserved
loop-place-preserved c =
    let within : c.loop-place.place < length c.loop-place.room =
    omega (
      arith,
      c.loop-place.invariant.long,
      c.loop-place-test.true,
      c.value-count.ensures.in_range.1,
      c.value-count.ensures.value,
    ) in
    let P : List Id → Type 0 = All IsId in
    record {
      some = omega arith;
      upto = omega (arith, c.loop-place-test.true);
      long = length-set c.loop-place.room c.loop-place.place c.in_ok-room-2.field-0
          ∙ c.loop-place.invariant.long;
      in_range = subst P
          (sym (take_more_set c.loop-place.room c.loop-place.place c.in_ok-room-2.field-0 within))
          (All-push IsId (take c.loop-place.place c.loop-place.room) c.in_ok-room-2.field-0
          c.loop-place.invariant.in_range c.in_ok-room-2.ensures.read.0);
      read = read_more c.args.bytes.now c.loop-place.room c.loop-place.place _
          c.in_ok-room-2.field-0 within refl c.loop-place.invariant.read
          c.in_ok-room-2.ensures.read.1;
      passed = passed_more c.args.bytes.now c.loop-place.place _ c.value-count.result
          c.loop-place-test.true refl c.loop-place.invariant.passed c.in_ok-room-2.ensures.ok;
    }

pub returns-clause-read : goal.returns-clause-read
returns-clause-read c =
    read_ids c.args.bytes.now c.loop-place.room c.value-count.result c.args.count c.loop-place.place
    c.new.result c.unwrap.result c.unwrap.ensures c.new.ensures c.value-count.ensures.value
    (omega (arith, c.value-count.ensures.in_range.1, c.value-count.ensures.value))
    c.loop-place.invariant.upto c.loop-place-test.false c.loop-place.invariant.long
    c.loop-place.invariant.in_range c.loop-place.invariant.read
