use Rattle.std.proofs.Common.{take_all, subst, arith}
use Rattle.sqlite.specs.Held.{state}
use Rattle.s10_rows.specs.RowWrites.{FindAtMostOne}
use Rattle.s10_statements.specs.Steps.{EditsFittingTables}
use Rattle.s10_statements.proofs.StepLemmas.{Succeeds, step_none, step_then, step_err}
use Rattle.s10_statements.proofs.WriteLemmas.{serials_one, with_serials_in, finds_at}
use Rattle.s10_statements.proofs.writes.apply_serial_writes.Goals as goal

pub loop-write-init : goal.loop-write-init
loop-write-init g c =
    record { step = step_none g.S.Store c.args.tx.now.conn (λ tables held few. held) }

pub loop-write-preserved : goal.loop-write-preserved
loop-write-preserved g c = record {
  step = step_then c.loop-write.invariant.step c.in_ok-apply_serial_write.ensures
      (λ made one tables held few. serials_one
      (state g.S.Store c.apply_serial_write.new.tx.conn.now).now c.args.serials.now
      c.loop-write.write-index _ tables c.loop-write-test.true (one _ (made tables held few)
      (finds_at c.args.serials.now c.loop-write.write-index _ tables.serials
      c.loop-write-test.true few)));
}

pub returns-in_err-apply_serial_write :
    goal.returns-in_err-apply_serial_write
returns-in_err-apply_serial_write g c = step_err _ c.from_residual.result
    c.from_residual.ensures.1
    (step_then c.loop-write.invariant.step c.apply_serial_write.ensures (λ made one. made))

pub returns : goal.returns
returns g c =
    subst (λ ws. Succeeds g.S.Store c.args.tx.now.conn c.loop-write.tx.conn
    (EditsFittingTables g.S.Store c.args.tx.now.conn c.loop-write.tx.conn
    (λ tables. FindAtMostOne c.args.serials.now tables.serials) (with_serials_in ws)))
    (take_all c.loop-write.write-index c.args.serials.now
    (omega (arith, c.loop-write-test.false))) c.loop-write.invariant.step
