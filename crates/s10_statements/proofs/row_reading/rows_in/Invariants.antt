use Rattle.std.proofs.Common.{◌≡◌, map, take}
use Rattle.s10_statements.proofs.row_reading.rows_in.Given as goal

abbrev pub invariant-loop-row : goal.invariant-loop-row
invariant-loop-row g l = map g.T.FromRow.shown l.typed.items ≡ take l.row-index l.rows
