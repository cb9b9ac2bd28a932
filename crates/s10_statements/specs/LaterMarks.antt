-- Defines tables in which the marks that later writes set are still to come.
use Rattle.std.specs.Prelude.{ℤ, pos, Bool, false, if◌then◌else◌, List, [], ◌∷◌, ◌++◌, map}
use Rattle.std.specs.List.{list_any}
use Rattle.std.specs.Ordering.{int_eq}
use Rattle.sqlite.specs.Effect.{Database}
use Rattle.s10_rows.specs.declared.call_write.CallWrite.{CallWrite}
use Rattle.s10_rows.specs.declared.range_row.RangeRow.{RangeRow}
use Rattle.s10_rows.specs.declared.range_write.RangeWrite.{RangeWrite}
use Rattle.s10_rows.specs.declared.range_write.RangeWrite.TheVariants.{New, Mark}
use Rattle.s10_rows.specs.Tables.{Tables, HaveSameRows}
use Rattle.s10_statements.specs.Shown.{HasTables}

-- Whether the write sets the mark of the range with that number.
abbrev pub sets_mark_of : ℤ → RangeWrite → Bool
sets_mark_of num (New row) = false
sets_mark_of num (Mark marked mark) = int_eq num marked

-- Whether one of the writes sets the mark of the range with that number.
abbrev pub is_mark_set : ℤ → List RangeWrite → Bool
is_mark_set num writes = list_any (sets_mark_of num) writes

-- Whether the write sets a mark that one of the later writes sets again.
abbrev pub is_set_again : RangeWrite → List RangeWrite → Bool
is_set_again (New row) later = false
is_set_again (Mark num mark) later = is_mark_set num later

-- The writes of the calls to ranges, in order.
abbrev pub range_writes : List CallWrite → List RangeWrite
range_writes [] = []
range_writes (w ∷ ws) = w.ranges.items ++ range_writes ws

-- The row, with the mark 0 if one of the later writes sets its mark.
abbrev pub unmarked : List RangeWrite → RangeRow → RangeRow
unmarked later r = if is_mark_set r.num later then record r { mark = pos 0 } else r

-- A database has the tables, but for the marks that the later writes set.
pub record HasTablesBut (later : List RangeWrite) (db : Database) (tables : Tables) : Type 0 where
  pub ranges : List RangeRow
  pub held : HasTables db (record tables { ranges = ranges })
  pub same : HaveSameRows (map (unmarked later) ranges) (map (unmarked later) tables.ranges)
