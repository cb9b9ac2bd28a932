use Rattle.sqlite.specs.Held.{state}
use Rattle.s10_statements.proofs.MakeLemmas.{none_made, made_next, all_made, head_defined}
use Rattle.s10_statements.proofs.MakeLemmas.{calls_defined, ranges_defined, serials_defined}
use Rattle.s10_statements.proofs.MakeLemmas.{closed_defined}
use Rattle.s10_statements.proofs.StepLemmas.{step_then, step_err, step_weaker}
use Rattle.s10_statements.proofs.creating.create_each_table.Goals as goal

pub returns-in_err-run : goal.returns-in_err-run
returns-in_err-run g c = step_err _ c.from_residual.result c.from_residual.ensures.1
    c.run.ensures

pub returns-in_err-run-2 : goal.returns-in_err-run-2
returns-in_err-run-2 g c = step_err _ c.from_residual-in_err-run-2.result
    c.from_residual-in_err-run-2.ensures.1
    (step_then c.in_ok-run.ensures c.run-2.ensures
    (λ p q. q))

pub returns-in_err-run-3 : goal.returns-in_err-run-3
returns-in_err-run-3 g c = step_err _ c.from_residual-in_err-run-3.result
    c.from_residual-in_err-run-3.ensures.1
    (step_then (step_then c.in_ok-run.ensures c.in_ok-run-2.ensures
    (λ p q. q)) c.run-3.ensures
    (λ p q. q))

pub returns-in_err-run-4 : goal.returns-in_err-run-4
returns-in_err-run-4 g c = step_err _ c.from_residual-in_err-run-4.result
    c.from_residual-in_err-run-4.ensures.1
    (step_then (step_then (step_then c.in_ok-run.ensures c.in_ok-run-2.ensures
    (λ p q. q)) c.in_ok-run-3.ensures
    (λ p q. q)) c.run-4.ensures
    (λ p q. q))

pub returns : goal.returns
returns g c = step_weaker (λ it none. let made = it none in
    (all_made (state g.S.Store c.run-5.new.tx.conn.now).now made, made.schema_is))
    (made_next closed_defined (made_next serials_defined (made_next ranges_defined (made_next
    calls_defined (made_next head_defined (none_made g.S.Store c.args.tx.now.conn)
    c.in_ok-run.ensures)
    c.in_ok-run-2.ensures)
    c.in_ok-run-3.ensures)
    c.in_ok-run-4.ensures)
    c.run-5.ensures)
