use Rattle.std.proofs.Common.{take}
use Rattle.s10_rows.specs.RowWrites.{FindAtMostOne}
use Rattle.s10_statements.specs.Steps.{EditsFittingTables}
use Rattle.s10_statements.proofs.WriteLemmas.{with_serials_in}
use Rattle.s10_statements.proofs.StepLemmas.{Succeeds}
use Rattle.s10_statements.proofs.writes.apply_serial_writes.Given as goal

-- The writes so far are applied.
abbrev pub invariant-loop-write : goal.invariant-loop-write
invariant-loop-write g l = record {
  step : Succeeds g.S.Store l.fn.tx.conn l.tx.conn
      (EditsFittingTables g.S.Store l.fn.tx.conn l.tx.conn
      (λ tables. FindAtMostOne l.serials tables.serials)
      (with_serials_in (take l.write-index l.serials)));
}
