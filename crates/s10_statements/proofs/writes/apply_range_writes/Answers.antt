use Rattle.std.proofs.Common.{arith}
use Rattle.sqlite.specs.Held.{state}
use Rattle.s10_statements.specs.LaterMarks.{range_writes}
use Rattle.s10_statements.proofs.LaterMarkLemmas.{range_written, all_written}
use Rattle.s10_statements.proofs.StepLemmas.{step_none, step_then, step_err, step_weaker}
use Rattle.s10_statements.proofs.writes.apply_range_writes.Goals as goal

pub loop-place-init : goal.loop-place-init
loop-place-init g c =
    record { step = step_none g.S.Store c.args.tx.now.conn (λ tables held. held) }

pub loop-place-preserved : goal.loop-place-preserved
loop-place-preserved g c = record {
  step = step_then c.loop-place.invariant.step c.in_ok-apply_unless_set_again.ensures
      (λ made one tables held. range_written c.args.ranges.now c.loop-place.place _
      (range_writes c.args.later.now)
      (state g.S.Store c.loop-place.tx.conn.now).now
      (state g.S.Store c.apply_unless_set_again.new.tx.conn.now).now tables
      c.loop-place-test.true one (made tables held));
}

pub returns-in_err-apply_unless_set_again : goal.returns-in_err-apply_unless_set_again
returns-in_err-apply_unless_set_again g c = step_err _ c.from_residual.result
    c.from_residual.ensures.1
    (step_then c.loop-place.invariant.step c.apply_unless_set_again.ensures (λ made one. made))

pub returns : goal.returns
returns g c =
    step_weaker (λ made tables held. all_written c.args.ranges.now c.loop-place.place
    (range_writes c.args.later.now) (state g.S.Store c.loop-place.tx.conn.now).now tables
    (omega (arith, c.loop-place-test.false)) (made tables held)) c.loop-place.invariant.step
