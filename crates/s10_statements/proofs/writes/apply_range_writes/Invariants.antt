use Rattle.std.proofs.Common.{take, drop, ◌++◌}
use Rattle.sqlite.specs.Held.{state}
use Rattle.s10_rows.specs.Tables.{Tables}
use Rattle.s10_statements.specs.LaterMarks.{HasTablesBut, range_writes}
use Rattle.s10_statements.proofs.WriteLemmas.{with_ranges_in}
use Rattle.s10_statements.proofs.StepLemmas.{Succeeds}
use Rattle.s10_statements.proofs.writes.apply_range_writes.Given as goal

-- The writes so far are applied, without the marks that are to come.
abbrev pub invariant-loop-place : goal.invariant-loop-place
invariant-loop-place g l = record {
  step : Succeeds g.S.Store l.fn.tx.conn l.tx.conn ((tables : Tables)
      → HasTablesBut (l.ranges ++ range_writes l.later) (state g.S.Store l.fn.tx.conn.now).now
      tables
      → HasTablesBut (drop l.place l.ranges ++ range_writes l.later)
      (state g.S.Store l.tx.conn.now).now (with_ranges_in (take l.place l.ranges) tables));
}
