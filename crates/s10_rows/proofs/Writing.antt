-- One more write, after others.
use Rattle.std.proofs.Common.{◌≡◌, List, [], ◌∷◌, ◌++◌, refl}
use Rattle.s10_rows.specs.declared.range_row.RangeRow.{RangeRow}
use Rattle.s10_rows.specs.declared.range_write.RangeWrite.{RangeWrite}
use Rattle.s10_rows.specs.declared.serial_row.SerialRow.{SerialRow}
use Rattle.s10_rows.specs.declared.serial_write.SerialWrite.{SerialWrite}
use Rattle.s10_rows.specs.RowWrites.{with_range, with_ranges, with_serial, with_serials}

pub ranges_then : (ws : List RangeWrite) (w : RangeWrite) (rows : List RangeRow)
    → with_ranges (ws ++ w ∷ []) rows ≡ with_range w (with_ranges ws rows)
ranges_then [] w rows = refl
ranges_then (x ∷ ws) w rows = ranges_then ws w (with_range x rows)

pub serials_then : (ws : List SerialWrite) (w : SerialWrite) (rows : List SerialRow)
    → with_serials (ws ++ w ∷ []) rows ≡ with_serial w (with_serials ws rows)
serials_then [] w rows = refl
serials_then (x ∷ ws) w rows = serials_then ws w (with_serial x rows)
