use Rattle.std.proofs.Common.{◌∙◌, arith}
use Rattle.s10_history.proofs.After.{after_low, after_high, some_value}
use Rattle.s10_history.proofs.range.Range.serial_after.Goals as goal

pub returns-then-next-last-clause-steps : goal.returns-then-next-last-clause-steps
returns-then-next-last-clause-steps c low high few =
    c.unwrap_or.ensures ∙ some_value c.new.result _ _ _ c.new.ensures
    (omega (arith, c.if-next-last.true, c.value-last.ensures.in_range))
    ∙ after_low c.args.self.now c.args.serial c.args.count _ low high few
    (omega (
      arith,
      c.if-next-last.true,
      c.value.ensures.value,
      c.value-last.ensures.value,
      c.from.ensures,
    )) (omega (arith, c.value.ensures.value, c.from.ensures))

pub returns-else-next-last-clause-steps : goal.returns-else-next-last-clause-steps
returns-else-next-last-clause-steps c low high few =
    c.unwrap_or-else-next-last.ensures ∙ some_value c.new-else-next-last.result _ _ _
    c.new-else-next-last.ensures (omega (
      arith,
      c.value.ensures.in_range,
      c.value-last.ensures.in_range,
      c.value.ensures.value,
      c.value-last.ensures.value,
      c.value-else-next-last.ensures.value,
      c.from.ensures,
      low,
      high,
      few,
    ))
    ∙ after_high c.args.self.now c.args.serial c.args.count _ low high few
    (omega (
      arith,
      c.if-next-last.false,
      c.value.ensures.value,
      c.value-last.ensures.value,
      c.from.ensures,
    )) (omega (
      arith,
      c.if-next-last.false,
      c.value.ensures.value,
      c.value-last.ensures.value,
      c.value-else-next-last.ensures.value,
      c.from.ensures,
      low,
      high,
    ))
