-- What the reads find, as typed rows.
use Rattle.std.proofs.Common.{◌≡◌, ℤ, List, map, filter, sym, subst, IsTrue}
use Rattle.std.proofs.Math.Logic.{∥∥₁_map}
use Rattle.std.specs.List.Sorted.{IsPermutation}
use Rattle.std.proofs.lemmas.List.Sorted.{IsPermutation-sym, IsPermutation-map}
use Rattle.std.specs.List.{AllByRecursion}
use Rattle.sqlite_trees.specs.View.{is_int}
use Rattle.sqlite_keyed.proofs.ListLemmas.{map-map, all_unmap}
use Rattle.sqlite_value.specs.Order.{Row, column}
use Rattle.sqlite.specs.State.{State, Shown}
use Rattle.s10_rows.specs.declared.head_row.HeadRow.{HeadRow}
use Rattle.s10_rows.specs.declared.range_row.RangeRow.{RangeRow}
use Rattle.s10_rows.specs.declared.serial_row.SerialRow.{SerialRow}
use Rattle.s10_rows.specs.declared.closed_row.ClosedRow.{ClosedRow}
use Rattle.s10_rows.specs.CallRow.{StoredCall}
use Rattle.s10_schema.specs.Schema.{IsLedgerSchema, IsClosedSchema}
use Rattle.s10_rows.specs.Tables.{Tables, HaveSameRows}
use Rattle.s10_statements.specs.Shown.{HasTables, shown_head, shown_call, shown_range, shown_serial}
use Rattle.s10_statements.specs.Shown.{shown_closed, head_columns, call_columns, range_columns}
use Rattle.s10_statements.specs.Shown.{serial_columns, closed_columns, serial_front}
use Rattle.s10_statements.specs.Shown.{HasIntegerRowid}
use Rattle.s10_rows.specs.Selected.{is_within}
use Rattle.s10_statements.specs.Statements.{select_head_sql, select_calls_sql, select_ranges_sql}
use Rattle.s10_statements.specs.Statements.{select_serials_within_sql, select_serials_sql}
use Rattle.s10_statements.specs.Statements.{select_closed_sql}
use Rattle.s10_statements.proofs.GoneLemmas.{all_moved}
use Rattle.s10_statements.proofs.AnswerLemmas.{wide_columns, head_shows, calls_shows}
use Rattle.s10_statements.proofs.AnswerLemmas.{ranges_shows, within_shows}
use Rattle.s10_statements.proofs.AnswerLemmas.{within_params, within_test, within_selects}
use Rattle.s10_statements.proofs.AnswerLemmas.{serials_shows, closed_shows}

whole : {X : Type 0} (shown : X → Row) (vs rows : List Row) (found : List X) → IsPermutation vs rows
    → map shown found ≡ rows → HaveSameRows (map shown found) vs
whole shown vs rows found p e = ∣ IsPermutation-sym vs (map shown found)
    (subst (IsPermutation vs) (sym e) p) ∣₁

module _ (params : Row) (old new : State) (rows : List Row)
    (has : IsLedgerSchema old.now.schema) where
  pub head_found : (found : List HeadRow) → Shown select_head_sql params old new rows
      → map shown_head found ≡ rows → HaveSameRows (map shown_head found)
      (map head_columns (old.now.trees 0))
  head_found found h typed = whole shown_head (map head_columns (old.now.trees 0)) rows found
      (head_shows params old new rows has h) typed

  pub calls_found : (found : List StoredCall) → Shown select_calls_sql params old new rows
      → map shown_call found ≡ rows → HaveSameRows (map shown_call found)
      (map call_columns (old.now.trees 1))
  calls_found found h typed = whole shown_call (map call_columns (old.now.trees 1)) rows found
      (calls_shows params old new rows has h) typed

  pub ranges_found : (found : List RangeRow) → Shown select_ranges_sql params old new rows
      → map shown_range found ≡ rows → HaveSameRows (map shown_range found)
      (map range_columns (old.now.trees 3))
  ranges_found found h typed = whole shown_range (map range_columns (old.now.trees 3)) rows found
      (ranges_shows params old new rows has h) typed

  pub serials_found : (found : List SerialRow) → Shown select_serials_sql params old new rows
      → map shown_serial found ≡ map serial_front rows
      → HaveSameRows (map shown_serial found) (map serial_columns (old.now.trees 4))
  serials_found found h typed =
      let wide : IsPermutation (map serial_front (map wide_columns (old.now.trees 4)))
      (map serial_front rows) =
      IsPermutation-map serial_front _ _ (serials_shows params old new rows has h) in
      whole shown_serial (map serial_columns (old.now.trees 4)) (map serial_front rows) found
      (rw (map-map serial_front wide_columns (old.now.trees 4)) at wide) typed

  pub serials_numbered : Shown select_serials_sql params old new rows
      → AllByRecursion (λ v. IsTrue (is_int (column v 7))) rows
      → AllByRecursion HasIntegerRowid (old.now.trees 4)
  serials_numbered h each =
      all_unmap (λ v. IsTrue (is_int (column v 7))) wide_columns (old.now.trees 4)
      (all_moved (λ v. IsTrue (is_int (column v 7))) rows (map wide_columns (old.now.trees 4))
      (IsPermutation-sym _ _ (serials_shows params old new rows has h)) each)

module _ (params : Row) (old new : State) (rows : List Row)
    (has : IsClosedSchema old.now.schema) where
  pub closed_found : (found : List ClosedRow) → Shown select_closed_sql params old new rows
      → map shown_closed found ≡ rows → HaveSameRows (map shown_closed found)
      (map closed_columns (old.now.trees 6))
  closed_found found h typed = whole shown_closed (map closed_columns (old.now.trees 6)) rows found
      (closed_shows params old new rows has h) typed

pub within_found : (pair low high : ℤ) (old new : State) (rows : List Row) → (tables : Tables)
    → HasTables old.now tables → (found : List SerialRow)
    → Shown select_serials_within_sql (within_params pair low high) old new rows
    → map shown_serial found ≡ rows → HaveSameRows (filter (is_within pair low high) tables.serials)
    found
within_found pair low high old new rows tables held found h typed =
    let shows : IsPermutation (filter (within_test (within_params pair low high))
    (map serial_columns (old.now.trees 4))) (map shown_serial found) =
    subst (IsPermutation (filter (within_test (within_params pair low high))
    (map serial_columns (old.now.trees 4)))) (sym typed)
    (within_shows (within_params pair low high) old new rows held.schema.ledger h) in
    ∥∥₁_map held.serials (λ p. within_selects pair low high tables.serials found
    (map serial_columns (old.now.trees 4)) p shows)
