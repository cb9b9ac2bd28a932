use Rattle.std.proofs.Common.{◌≡◌, length, take, drop, refl, ap, ◌∙◌, arith, length-take}
use Rattle.std.proofs.Common.{length-drop}
use Rattle.s10_wire.proofs.Identifiers.{spells_passes, refused_fails, stands_at}
use Rattle.s10_wire.proofs.fields.id_at.Goals as goal

pub split_at-requires : goal.split_at-requires
split_at-requires c = omega arith

pub split_at-requires-2 : goal.split_at-requires-2
split_at-requires-2 c = omega arith

pub read-requires : goal.read-requires
read-requires c = tt

pub returns-in-Ok-clause-ok : goal.returns-in-Ok-clause-ok
returns-in-Ok-clause-ok c =
    let text : c.split_at-2.result.0.now ≡ take 13 (drop c.args.at c.args.bytes.now) =
    c.split_at-2.ensures.front ∙ ap (take 13) c.split_at.ensures.back in
    spells_passes _ c.in-Ok.id (rw text at c.in-Ok.ensures.ok)

pub returns-in-Ok-clause-read : goal.returns-in-Ok-clause-read
returns-in-Ok-clause-read c =
    let text : c.split_at-2.result.0.now ≡ take 13 (drop c.args.at c.args.bytes.now) =
    c.split_at-2.ensures.front ∙ ap (take 13) c.split_at.ensures.back in (
      c.in-Ok.ensures.ok.in_range,
      stands_at c.args.bytes.now c.args.at c.in-Ok.id
          (rw text at c.in-Ok.ensures.ok),
    )

pub returns-in-Ok-clause-err : goal.returns-in-Ok-clause-err
returns-in-Ok-clause-err c = tt

pub returns-in-Err-clause-ok : goal.returns-in-Err-clause-ok
returns-in-Err-clause-ok c = tt

pub returns-in-Err-clause-read : goal.returns-in-Err-clause-read
returns-in-Err-clause-read c = tt

pub returns-in-Err-clause-err : goal.returns-in-Err-clause-err
returns-in-Err-clause-err c =
    let text : c.split_at-2.result.0.now ≡ take 13 (drop c.args.at c.args.bytes.now) =
    c.split_at-2.ensures.front ∙ ap (take 13) c.split_at.ensures.back in
    let long : length (take 13 (drop c.args.at c.args.bytes.now)) ≡ 13 =
    simp (length-take, length-drop) (omega arith) in
    (refl, refused_fails _ c.in-Err.field-0 long (rw text at c.in-Err.ensures.refused))
