use Rattle.std.proofs.Common.{arith}
use Rattle.s10_statements.proofs.CallLemmas.{none_called, one_called, all_called}
use Rattle.s10_statements.proofs.StepLemmas.{step_none, step_after, step_then, step_err, step_weaker}
use Rattle.s10_statements.proofs.writes.insert_calls.Goals as goal

pub loop-place-init : goal.loop-place-init
loop-place-init g c = record {
  step = step_none g.S.Store c.args.tx.now.conn
      (none_called g.S.Store c.args.tx.now.conn c.args.writes.now);
}

pub loop-place-preserved : goal.loop-place-preserved
loop-place-preserved g c = record {
  step = step_after c.loop-place.invariant.step c.in_ok-insert_call_and_writes.ensures
      (one_called c.args.writes.now c.loop-place.place c.index-writes-place.result
      c.loop-place-test.true c.index-writes-place.is);
}

pub returns-in_err-insert_call_and_writes :
    goal.returns-in_err-insert_call_and_writes
returns-in_err-insert_call_and_writes g c = step_err _ c.from_residual.result
    c.from_residual.ensures.1
    (step_then c.loop-place.invariant.step c.insert_call_and_writes.ensures (λ made one. made))

pub returns : goal.returns
returns g c = step_weaker (all_called c.args.writes.now c.loop-place.place
    (omega (arith, c.loop-place-test.false))) c.loop-place.invariant.step
