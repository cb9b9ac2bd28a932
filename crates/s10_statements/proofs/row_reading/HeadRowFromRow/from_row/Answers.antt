use Rattle.std.proofs.Common.{rules}
use Rattle.s10_statements.proofs.RowLemmas.{columns_4}
use Rattle.s10_statements.proofs.row_reading.HeadRowFromRow.from_row.Goals as goal

pub returns : goal.returns
returns c = columns_4 _ _ _ _ _ c.in_ok-check_width.ensures (search rules) (search rules)
    (search rules) (search rules)
