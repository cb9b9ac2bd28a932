-- The writes so far, of those of a call.
use Rattle.std.proofs.Common.{◌≡◌, ℕ, zero, suc, ◌+◌, ◌≤◌, ◌<◌, List, [], ◌∷◌, length}
use Rattle.std.proofs.Common.{filter, take, get_or, sym, ap, subst, ◌∙◌, arith}
use Rattle.std.proofs.lemmas.List.{take_more}
use Rattle.sqlite.specs.Effect.{Database}
use Rattle.s10_rows.specs.declared.range_row.RangeRow.{RangeRow}
use Rattle.s10_rows.specs.declared.range_write.RangeWrite.{RangeWrite}
use Rattle.s10_rows.specs.declared.serial_row.SerialRow.{SerialRow}
use Rattle.s10_rows.specs.declared.serial_write.SerialWrite.{SerialWrite}
use Rattle.s10_rows.specs.Tables.{Tables}
use Rattle.s10_rows.specs.RowWrites.{FindAtMostOne, is_at, row_of, with_range, with_ranges}
use Rattle.s10_rows.specs.RowWrites.{with_serial, with_serials}
use Rattle.s10_statements.specs.Shown.{HasTables}
use Rattle.s10_rows.proofs.Writing.{ranges_then, serials_then}

pub ranges_more : (ws : List RangeWrite) (i : ℕ) (d : RangeWrite) (rows : List RangeRow) → i < length ws
    → with_ranges (take (i + 1) ws) rows ≡ with_range (get_or ws i d) (with_ranges (take i ws) rows)
ranges_more ws i d rows within = ap (λ (l : List RangeWrite). with_ranges l rows)
    (take_more ws i d within) ∙ ranges_then (take i ws) (get_or ws i d) rows

serials_more : (ws : List SerialWrite) (i : ℕ) (d : SerialWrite) (rows : List SerialRow)
    → i < length ws → with_serials (take (i + 1) ws) rows ≡ with_serial (get_or ws i d)
    (with_serials (take i ws) rows)
serials_more ws i d rows within = ap (λ (l : List SerialWrite). with_serials l rows)
    (take_more ws i d within) ∙ serials_then (take i ws) (get_or ws i d) rows

-- The write at an index finds at most one row among those that the writes before it left.
pub finds_at : (ws : List SerialWrite) (i : ℕ) (d : SerialWrite) (rows : List SerialRow)
    → i < length ws → FindAtMostOne ws rows
    → length (filter (is_at (row_of (get_or ws i d)).pair (row_of (get_or ws i d)).serial)
    (with_serials (take i ws) rows)) ≤ 1
finds_at [] i d rows within find = absurd (omega (arith, within))
finds_at (w ∷ ws) zero d rows within find = find.0
finds_at (w ∷ ws) (suc i) d rows within find = finds_at ws i d (with_serial w rows)
    (omega (arith, within)) find.1

abbrev pub with_ranges_in : List RangeWrite → Tables → Tables
with_ranges_in ws tables = record tables { ranges = with_ranges ws tables.ranges }

abbrev pub with_serials_in : List SerialWrite → Tables → Tables
with_serials_in ws tables = record tables { serials = with_serials ws tables.serials }

pub serials_one : (db : Database) (ws : List SerialWrite) (i : ℕ) (d : SerialWrite)
    (tables : Tables) → i < length ws
    → HasTables db
    (record tables {
      serials = with_serial (get_or ws i d) (with_serials (take i ws) tables.serials);
    })
    → HasTables db (with_serials_in (take (i + 1) ws) tables)
serials_one db ws i d tables within held =
    subst (λ (rows : List SerialRow). HasTables db (record tables { serials = rows }))
    (sym (serials_more ws i d tables.serials within)) held
