use Rattle.std.proofs.Common.{◌≡◌, ◌≤◌, ◌*◌, ◌+◌, Bool, not, cond, length, Some, None, refl, sym}
use Rattle.std.proofs.Common.{ap, ◌∙◌, arith}
use Rattle.std.proofs.lemmas.Bool.{eq-eqb}
use Rattle.std.proofs.lemmas.Result.{err_from_is_err_and}
use Rattle.s10_wire.specs.declared.wire_fault.WireFault.TheVariants.{Field}
use Rattle.s10_wire.specs.WireFault.{byte}
use Rattle.s10_wire.proofs.Done.{after_byte, asked_count, drawn_read, drawn_many_read, many_refused}
use Rattle.s10_wire.proofs.reply_decoder.done_at.Goals as goal

pub number_at-requires : goal.number_at-requires
number_at-requires c = rw c.in-Grant.is at c.requires.long

pub number_at-day-requires : goal.number_at-day-requires
number_at-day-requires c = let long : 34 ≤ length c.args.bytes.now =
    rw c.in-Draw.is at c.requires.long in omega (arith, long)

pub id_at-requires : goal.id_at-requires
id_at-requires c = rw c.in-Draw.is at c.requires.long

pub number_at-day-requires-in-DrawMany : goal.number_at-day-requires-in-DrawMany
number_at-day-requires-in-DrawMany c =
    let long : 22 + 13 * byte c.args.bytes.now 16 ≤ length c.args.bytes.now =
    rw c.in-DrawMany.is at c.requires.long in
    omega (arith, long)

pub ids_at-requires : goal.ids_at-requires
ids_at-requires c =
    let b = c.args.bytes.now in
    let long : 22 + 13 * byte b 16 ≤ length b = rw c.in-DrawMany.is at c.requires.long in
    let asked : c.in-DrawMany.count ≡ byte b 16 = asked_count b c.in-DrawMany.service
    c.in-DrawMany.country c.in-DrawMany.count (rw c.in-DrawMany.is at c.requires.begins) in
    rw asked long

pub status_at-requires : goal.status_at-requires
status_at-requires c = rw c.in-Query.is at c.requires.long

pub returns-in-Grant-clause-fits : goal.returns-in-Grant-clause-fits
returns-in-Grant-clause-fits c = rw c.in-Grant.is refl

pub returns-in-Grant-clause-read : goal.returns-in-Grant-clause-read
returns-in-Grant-clause-read c =
    let b = c.args.bytes.now in
    let long : 33 ≤ length b = rw c.in-Grant.is at c.requires.long in
    let done : byte b 28 ≡ 0 = rw c.in-Grant.is at c.requires.done in (
      c.number_at.type_inv,
      rw c.in-Grant.is (after_byte b _ 28 0 (omega (arith, long)) done c.number_at.ensures.read),
    )

pub returns-in-Grant-clause-refused : goal.returns-in-Grant-clause-refused
returns-in-Grant-clause-refused c = rw c.in-Grant.is refl

pub returns-in-Void-clause-fits : goal.returns-in-Void-clause-fits
returns-in-Void-clause-fits c = rw c.in-Void.is refl

pub returns-in-Void-clause-read : goal.returns-in-Void-clause-read
returns-in-Void-clause-read c =
    let b = c.args.bytes.now in
    let long : 26 ≤ length b = rw c.in-Void.is at c.requires.long in
    let done : byte b 25 ≡ 0 = rw c.in-Void.is at c.requires.done in
    (tt, rw c.in-Void.is (after_byte b _ 25 0 long done refl))

pub returns-in-Void-clause-refused : goal.returns-in-Void-clause-refused
returns-in-Void-clause-refused c = rw c.in-Void.is refl

pub returns-in-Withdraw-clause-fits : goal.returns-in-Withdraw-clause-fits
returns-in-Withdraw-clause-fits c = rw c.in-Withdraw.is refl

pub returns-in-Withdraw-clause-read : goal.returns-in-Withdraw-clause-read
returns-in-Withdraw-clause-read c =
    let b = c.args.bytes.now in
    let long : 17 ≤ length b = rw c.in-Withdraw.is at c.requires.long in
    let done : byte b 16 ≡ 0 = rw c.in-Withdraw.is at c.requires.done in
    (tt, rw c.in-Withdraw.is (after_byte b _ 16 0 long done refl))

pub returns-in-Withdraw-clause-refused : goal.returns-in-Withdraw-clause-refused
returns-in-Withdraw-clause-refused c = rw c.in-Withdraw.is refl

pub returns-in_ok-id-in-Draw-clause-fits : goal.returns-in_ok-id-in-Draw-clause-fits
returns-in_ok-id-in-Draw-clause-fits c = rw c.in-Draw.is refl

pub returns-in_ok-id-in-Draw-clause-read : goal.returns-in_ok-id-in-Draw-clause-read
returns-in_ok-id-in-Draw-clause-read c =
    drawn_read c.args.bytes.now c.args.body.now c.in-Draw.service c.in-Draw.country
    c.number_at-day.result c.in_ok-id-in-Draw.id c.in-Draw.is (c.requires.long, c.requires.done)
    c.number_at-day.type_inv c.number_at-day.ensures.read c.in_ok-id-in-Draw.ensures.read

pub returns-in_ok-id-in-Draw-clause-refused : goal.returns-in_ok-id-in-Draw-clause-refused
returns-in_ok-id-in-Draw-clause-refused c =
    rw c.in-Draw.is (ap (λ (t : Bool). cond (not t) (Some (Field 21)) None)
    (sym c.in_ok-id-in-Draw.ensures.ok))

pub returns-in_ok-ids-in-DrawMany-clause-fits : goal.returns-in_ok-ids-in-DrawMany-clause-fits
returns-in_ok-ids-in-DrawMany-clause-fits c =
    rw c.in-DrawMany.is (eq-eqb (length c.in_ok-ids-in-DrawMany.ids) c.in-DrawMany.count
    c.in_ok-ids-in-DrawMany.ensures.read.1)

pub returns-in_ok-ids-in-DrawMany-clause-read : goal.returns-in_ok-ids-in-DrawMany-clause-read
returns-in_ok-ids-in-DrawMany-clause-read c =
    drawn_many_read c.args.bytes.now c.args.body.now c.in-DrawMany.service c.in-DrawMany.country
    c.in-DrawMany.count c.number_at-day-in-DrawMany.result c.in_ok-ids-in-DrawMany.ids
    c.in-DrawMany.is (c.requires.long, c.requires.done) c.requires.begins
    c.number_at-day-in-DrawMany.type_inv
    c.number_at-day-in-DrawMany.ensures.read c.in_ok-ids-in-DrawMany.ensures.read

pub returns-in_ok-ids-in-DrawMany-clause-refused : goal.returns-in_ok-ids-in-DrawMany-clause-refused
returns-in_ok-ids-in-DrawMany-clause-refused c =
    c.in_ok-ids-in-DrawMany.ensures.refused ∙ many_refused c.args.bytes.now c.args.body.now
    c.in-DrawMany.service c.in-DrawMany.country c.in-DrawMany.count c.in-DrawMany.is
    c.requires.begins

pub returns-in_ok-status-in-Query-clause-fits : goal.returns-in_ok-status-in-Query-clause-fits
returns-in_ok-status-in-Query-clause-fits c = rw c.in-Query.is refl

pub returns-in_ok-status-in-Query-clause-read : goal.returns-in_ok-status-in-Query-clause-read
returns-in_ok-status-in-Query-clause-read c =
    let b = c.args.bytes.now in
    let long : 31 ≤ length b = rw c.in-Query.is at c.requires.long in
    let done : byte b 25 ≡ 0 = rw c.in-Query.is at c.requires.done in (
      c.in_ok-status-in-Query.ensures.read.0,
      rw c.in-Query.is (after_byte b _ 25 0 (omega (arith, long)) done
          c.in_ok-status-in-Query.ensures.read.1),
    )

pub returns-in_ok-status-in-Query-clause-refused : goal.returns-in_ok-status-in-Query-clause-refused
returns-in_ok-status-in-Query-clause-refused c =
    rw c.in-Query.is c.in_ok-status-in-Query.ensures.refused

pub returns-in_err-id-in-Draw-clause-fits : goal.returns-in_err-id-in-Draw-clause-fits
returns-in_err-id-in-Draw-clause-fits c =
    rw (err_from_is_err_and c.from_residual.result c.from_residual.ensures.1).1 tt

pub returns-in_err-id-in-Draw-clause-read : goal.returns-in_err-id-in-Draw-clause-read
returns-in_err-id-in-Draw-clause-read c =
    rw (err_from_is_err_and c.from_residual.result c.from_residual.ensures.1).1 tt

pub returns-in_err-id-in-Draw-clause-refused : goal.returns-in_err-id-in-Draw-clause-refused
returns-in_err-id-in-Draw-clause-refused c =
    let p = err_from_is_err_and c.from_residual.result c.from_residual.ensures.1 in
    rw (p.1, p.2) (rw c.in-Draw.is (ap Some c.in_err-id-in-Draw.ensures.err.0
    ∙ ap (λ (t : Bool). cond (not t) (Some (Field 21)) None)
    (sym c.in_err-id-in-Draw.ensures.err.1)))

pub returns-in_err-ids-in-DrawMany-clause-fits : goal.returns-in_err-ids-in-DrawMany-clause-fits
returns-in_err-ids-in-DrawMany-clause-fits c =
    rw (err_from_is_err_and c.from_residual-in_err-ids-in-DrawMany.result
    c.from_residual-in_err-ids-in-DrawMany.ensures.1).1 tt

pub returns-in_err-ids-in-DrawMany-clause-read : goal.returns-in_err-ids-in-DrawMany-clause-read
returns-in_err-ids-in-DrawMany-clause-read c =
    rw (err_from_is_err_and c.from_residual-in_err-ids-in-DrawMany.result
    c.from_residual-in_err-ids-in-DrawMany.ensures.1).1 tt

pub returns-in_err-ids-in-DrawMany-clause-refused :
    goal.returns-in_err-ids-in-DrawMany-clause-refused
returns-in_err-ids-in-DrawMany-clause-refused c =
    let p = err_from_is_err_and c.from_residual-in_err-ids-in-DrawMany.result
    c.from_residual-in_err-ids-in-DrawMany.ensures.1 in
    rw (p.1, p.2) (c.in_err-ids-in-DrawMany.ensures.refused ∙ many_refused c.args.bytes.now
    c.args.body.now c.in-DrawMany.service c.in-DrawMany.country c.in-DrawMany.count
    c.in-DrawMany.is c.requires.begins)

pub returns-in_err-status-in-Query-clause-fits : goal.returns-in_err-status-in-Query-clause-fits
returns-in_err-status-in-Query-clause-fits c =
    rw (err_from_is_err_and c.from_residual-in_err-status-in-Query.result
    c.from_residual-in_err-status-in-Query.ensures.1).1 tt

pub returns-in_err-status-in-Query-clause-read : goal.returns-in_err-status-in-Query-clause-read
returns-in_err-status-in-Query-clause-read c =
    rw (err_from_is_err_and c.from_residual-in_err-status-in-Query.result
    c.from_residual-in_err-status-in-Query.ensures.1).1 tt

pub returns-in_err-status-in-Query-clause-refused :
    goal.returns-in_err-status-in-Query-clause-refused
returns-in_err-status-in-Query-clause-refused c =
    let p = err_from_is_err_and c.from_residual-in_err-status-in-Query.result
    c.from_residual-in_err-status-in-Query.ensures.1 in
    rw (p.1, p.2) (rw c.in-Query.is c.in_err-status-in-Query.ensures.refused)
