use Rattle.std.proofs.Common.{◌∙◌, refl}
use Rattle.std.proofs.lemmas.Result.{IfOk-weaker}
use Rattle.s10_statements.proofs.RowLemmas.{columns_7}
use Rattle.s10_statements.proofs.row_reading.SerialRowFromRow.from_row.Goals as goal

pub returns : goal.returns
returns c = IfOk-weaker c.serial_columns_in.result _ _ (λ serial front. front
    ∙ columns_7 _ _ _ _ _ _ _ _ c.in_ok-check_width.ensures refl refl refl refl refl refl refl)
    c.serial_columns_in.ensures
