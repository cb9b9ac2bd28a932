-- Defines which identifier a row of serials names.
use Rattle.std.specs.Prelude.{◌≡◌, pos}
use Rattle.s10_core.specs.declared.id.Id.{Id}
use Rattle.s10_core.specs.Pair.{pair_of}
use Rattle.s10_rows.specs.declared.serial_row.SerialRow.{SerialRow}

-- A row of serials names an identifier if it has its pair and its serial.
pub record NamesId (row : SerialRow) (x : Id) : Type 0 where
  pub pair : row.pair ≡ pos (pair_of x.service x.country)
  pub serial : row.serial ≡ pos x.serial
