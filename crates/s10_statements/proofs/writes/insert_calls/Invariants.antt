use Rattle.s10_statements.proofs.CallLemmas.{AreCalled}
use Rattle.s10_statements.proofs.StepLemmas.{Succeeds}
use Rattle.s10_statements.proofs.writes.insert_calls.Given as goal

-- The calls so far are written, without the marks that are to come.
abbrev pub invariant-loop-place : goal.invariant-loop-place
invariant-loop-place g l = record {
  step : Succeeds g.S.Store l.fn.tx.conn l.tx.conn
      (AreCalled g.S.Store l.fn.tx.conn l.tx.conn l.writes l.place);
}
