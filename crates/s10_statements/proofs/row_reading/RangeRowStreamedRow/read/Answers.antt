use Rattle.std.proofs.Common.{rules}
use Rattle.s10_statements.proofs.RowLemmas.{columns_6}
use Rattle.s10_statements.proofs.row_reading.RangeRowStreamedRow.read.Goals as goal

pub returns : goal.returns
returns c = columns_6 _ _ _ _ _ _ _ (search rules) (search rules) (search rules) (search rules)
    (search rules) (search rules) (search rules)
