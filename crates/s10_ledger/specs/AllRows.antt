-- Defines what an opening reads of a database.
use Rattle.std.specs.Prelude.{◌≡◌, ◌≢◌, ◌↔◌, Bool, IsTrue, All, List, map, Result, IfOk}
use Rattle.std.specs.List.{AllByRecursion}
use Rattle.std.specs.Ordering.{int_cmp}
use Rattle.std.specs.declared.cmp.Ordering.TheVariants as Ordering
use Rattle.sqlite_trees.specs.Tree.{IsAscending}
use Rattle.sqlite.specs.Effect.{Database}
use Rattle.s10_history.specs.declared.entry.Entry.{Entry}
use Rattle.s10_rows.specs.declared.closed_row.ClosedRow.{ClosedRow}
use Rattle.s10_rows.specs.declared.head_row.HeadRow.{HeadRow}
use Rattle.s10_rows.specs.declared.range_row.RangeRow.{RangeRow}
use Rattle.s10_rows.specs.declared.serial_row.SerialRow.{SerialRow}
use Rattle.s10_rows.specs.declared.open_fault.OpenFault.{OpenFault}
use Rattle.s10_rows.specs.CallRow.{StoredCall}
use Rattle.s10_rows.specs.Selected.{IsCall}
use Rattle.s10_rows.specs.Tables.{Tables, HaveSameRows, range_rows, serial_rows, closed_rows}
use Rattle.s10_replay.specs.RightRows.{kept_of}
use Rattle.s10_replay.specs.CheckedTables.{IsConsistent}
use Rattle.s10_index.specs.declared.indexed_book.IndexedBook.{IndexedBook}
use Rattle.s10_statements.specs.Shown.{shown_head, shown_call, shown_range, shown_serial}
use Rattle.s10_statements.specs.Shown.{head_columns, call_columns, range_columns, serial_columns}
use Rattle.s10_statements.specs.Shown.{HasIntegerRowid}
use Rattle.s10_ledger.specs.declared.opening.table_layout.TableLayout.{TableLayout}
use Rattle.s10_ledger.specs.declared.opening.verdicts.Verdicts.{Verdicts}
use Rattle.s10_ledger.specs.Replaying.{IsReplayOf}
use Rattle.s10_ledger.specs.TableLayout.{HasTableLayout, AreClosed}

-- The rows are those of head and of calls, the latter in order of arrival.
pub record HasCallRows (db : Database) (heads : List HeadRow) (calls : List StoredCall) :
    Type 0 where
  pub heads_are : HaveSameRows (map shown_head heads) (map head_columns (db.trees 0))
  pub calls_are : HaveSameRows (map shown_call calls) (map call_columns (db.trees 1))
  pub in_order : IsAscending (λ a b. int_cmp a.arrival b.arrival ≢ Ordering.Greater) calls

-- The answer is whether these rows of a table are those of the book, if there is one.
abbrev pub IsVerdictOn : {R : Type 0} → (List Entry → List R) → Result IndexedBook OpenFault
    → List R → Bool → Type 0
IsVerdictOn rows_of made rows answer = IfOk made (λ book. All IsCall book.index.entries.items
    → IsTrue answer ↔ HaveSameRows (rows_of book.index.entries.items) rows)

-- The answer is whether the rows of ranges are those of the book.
pub record HasRangeVerdict (db : Database) (made : Result IndexedBook OpenFault) (answer : Bool) :
    Type 0 where
  pub ranges : List RangeRow
  pub are : HaveSameRows (map shown_range ranges) (map range_columns (db.trees 3))
  pub verdict : IsVerdictOn range_rows made ranges answer

-- The answer is whether the rows of serials, which have integers as their rowids, are those of the
-- book.
pub record HasSerialVerdict (db : Database) (made : Result IndexedBook OpenFault) (answer : Bool) :
    Type 0 where
  pub serials : List SerialRow
  pub are : HaveSameRows (map shown_serial serials) (map serial_columns (db.trees 4))
  pub numbered : AllByRecursion HasIntegerRowid (db.trees 4)
  pub verdict : IsVerdictOn serial_rows made serials answer

-- The answer is whether the rows of closed are those of the book: none if the table is missing.
pub record HasClosedVerdict (form : TableLayout) (db : Database)
    (made : Result IndexedBook OpenFault) (answer : Bool) : Type 0 where
  pub closed : List ClosedRow
  pub are : AreClosed form db closed
  pub verdict : IsVerdictOn closed_rows made closed answer

-- The verdicts are on the rows of the database.
pub record HasVerdicts (form : TableLayout) (db : Database) (made : Result IndexedBook OpenFault)
    (verdicts : Verdicts) : Type 0 where
  pub ranges : HasRangeVerdict db made verdicts.has_ranges
  pub serials : HasSerialVerdict db made verdicts.has_serials
  pub closed : HasClosedVerdict form db made verdicts.has_closed

-- The verdicts are on the rows of these tables.
pub record AreVerdictsOn (made : Result IndexedBook OpenFault) (tables : Tables)
    (verdicts : Verdicts) : Type 0 where
  pub ranges : IsVerdictOn range_rows made tables.ranges verdicts.has_ranges
  pub serials : IsVerdictOn serial_rows made tables.serials verdicts.has_serials
  pub closed : IsVerdictOn closed_rows made tables.closed verdicts.has_closed

-- The database has been read: the calls were executed again or are refused, and the verdicts are on
-- the rows of the other tables.
pub record AreRead (form : TableLayout) (db : Database) (made : Result IndexedBook OpenFault)
    (verdicts : Verdicts) : Type 0 where
  pub tables : Tables
  pub has : HasTableLayout form db tables
  pub in_order : IsAscending (λ a b. int_cmp a.arrival b.arrival ≢ Ordering.Greater) tables.calls
  pub theirs : AreVerdictsOn made tables verdicts
  pub replayed : IsReplayOf tables.heads tables.calls made

-- An opening found a ledger: its rows are consistent with the settings of the book, which keeps its
-- calls.
pub record IsFound (form : TableLayout) (db : Database) (book : IndexedBook) : Type 0 where
  pub tables : Tables
  pub has : HasTableLayout form db tables
  pub whole : IsConsistent tables book.settings
  pub kept : book.index.entries.items ≡ kept_of tables.calls
