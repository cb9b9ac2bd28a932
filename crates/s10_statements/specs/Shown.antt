-- Defines how SQL shows the rows of the five tables, and which tables a database has.
use Rattle.std.specs.Prelude.{◌≡◌, ℕ, ℤ, pos, IsTrue, List, [], ◌∷◌, map, length}
use Rattle.std.specs.List.{AllByRecursion, range_with_len}
use Rattle.sqlite_value.specs.declared.value.Value.{Value}
use Rattle.sqlite_value.specs.declared.value.Value.TheVariants.{Null, Int, Real, Text, Blob}
use Rattle.sqlite_value.specs.Order.{Row, column}
use Rattle.sqlite_trees.specs.Tree.{rowid}
use Rattle.sqlite_trees.specs.View.{is_int}
use Rattle.sqlite_schema.specs.declared.schema.Schema.{Schema}
use Rattle.sqlite.specs.Effect.{Database}
use Rattle.s10_history.specs.declared.entry.Entry.{Entry}
use Rattle.s10_history.specs.Settings.{Terms}
use Rattle.s10_rows.specs.declared.head_row.HeadRow.{HeadRow}
use Rattle.s10_rows.specs.declared.range_row.RangeRow.{RangeRow}
use Rattle.s10_rows.specs.declared.serial_row.SerialRow.{SerialRow}
use Rattle.s10_rows.specs.declared.closed_row.ClosedRow.{ClosedRow}
use Rattle.s10_rows.specs.CallRow.{StoredCall}
use Rattle.s10_rows.specs.Tables.{Tables, HaveSameRows, tables_of}
use Rattle.s10_schema.specs.Schema.{IsClosedSchema, head_table, calls_table, ranges_table}
use Rattle.s10_schema.specs.Schema.{serials_table, closed_table, four_tables}
use Rattle.s10_schema.specs.Columns.{columns_in}

-- A row of head as SQL shows it.
abbrev pub shown_head : HeadRow → Row
shown_head r = Int r.one ∷ Int r.schema ∷ Int r.interval ∷ Int r.cap ∷ []

-- A row of calls as SQL shows it.
abbrev pub shown_call : StoredCall → Row
shown_call c = Int c.arrival ∷ Int c.customer ∷ Int c.number ∷ Int c.day ∷ Blob c.reply ∷ []

-- A row of ranges as SQL shows it.
abbrev pub shown_range : RangeRow → Row
shown_range r = Int r.num ∷ Int r.holder ∷ Int r.pair ∷ Int r.low ∷ Int r.high ∷ Int r.mark ∷ []

-- A row of serials as SQL shows it.
abbrev pub shown_serial : SerialRow → Row
shown_serial r = Int r.pair ∷ Int r.serial ∷ Int r.arrival ∷ Int r.day ∷ Int r.customer
    ∷ Int r.number ∷ Int r.voided ∷ []

-- A row of closed as SQL shows it.
abbrev pub shown_closed : ClosedRow → Row
shown_closed r = Int r.num ∷ Int r.arrival ∷ []

-- The integer of a value, 0 for a value of another type.
abbrev pub int_in : Value → ℤ
int_in Null = pos 0
int_in (Int n) = n
int_in (Real x) = pos 0
int_in (Text t) = pos 0
int_in (Blob b) = pos 0

-- The bytes of a value, none for a value of another type.
abbrev pub blob_in : Value → List ℕ
blob_in Null = []
blob_in (Int n) = []
blob_in (Real x) = []
blob_in (Text t) = []
blob_in (Blob b) = b

-- The row of head that SQL shows so.
abbrev pub head_from : Row → HeadRow
head_from v = record {
  one = int_in (column v 0);
  schema = int_in (column v 1);
  interval = int_in (column v 2);
  cap = int_in (column v 3);
}

-- The row of calls that SQL shows so.
abbrev pub call_from : Row → StoredCall
call_from v = record {
  arrival = int_in (column v 0);
  customer = int_in (column v 1);
  number = int_in (column v 2);
  day = int_in (column v 3);
  reply = blob_in (column v 4);
}

-- The row of ranges that SQL shows so.
abbrev pub range_from : Row → RangeRow
range_from v = record {
  num = int_in (column v 0);
  holder = int_in (column v 1);
  pair = int_in (column v 2);
  low = int_in (column v 3);
  high = int_in (column v 4);
  mark = int_in (column v 5);
}

-- The row of serials that SQL shows so.
abbrev pub serial_from : Row → SerialRow
serial_from v = record {
  pair = int_in (column v 0);
  serial = int_in (column v 1);
  arrival = int_in (column v 2);
  day = int_in (column v 3);
  customer = int_in (column v 4);
  number = int_in (column v 5);
  voided = int_in (column v 6);
}

-- The row of closed that SQL shows so.
abbrev pub closed_from : Row → ClosedRow
closed_from v = record { num = int_in (column v 0); arrival = int_in (column v 1) }

-- The columns of a row of serials that is shown with its rowid after them.
abbrev pub serial_front : Row → Row
serial_front v = map (column v) (range_with_len 0 (length serials_table.columns))

-- SQL shows a row of calls so.
abbrev pub ShowsCall : StoredCall → Row → Type 0
ShowsCall call row = shown_call call ≡ row

-- SQL shows a row of ranges so.
abbrev pub ShowsRange : RangeRow → Row → Type 0
ShowsRange range row = shown_range range ≡ row

-- SQL shows a row of serials so, with its rowid after the columns, which is an integer.
abbrev pub ShowsSerial : SerialRow → Row → Type 0
ShowsSerial serial row = (shown_serial serial ≡ serial_front row) × IsTrue (is_int (column row 7))

-- SQL shows a row of closed so.
abbrev pub ShowsClosed : ClosedRow → Row → Type 0
ShowsClosed closed row = shown_closed closed ≡ row

-- The columns of a stored row of head.
abbrev pub head_columns : Row → Row
head_columns r = columns_in head_table r

-- The columns of a stored row of calls.
abbrev pub call_columns : Row → Row
call_columns r = columns_in calls_table r

-- The columns of a stored row of ranges.
abbrev pub range_columns : Row → Row
range_columns r = columns_in ranges_table r

-- The columns of a stored row of serials.
abbrev pub serial_columns : Row → Row
serial_columns r = columns_in serials_table r

-- The columns of a stored row of closed.
abbrev pub closed_columns : Row → Row
closed_columns r = columns_in closed_table r

-- The rowid is an integer.
abbrev pub HasIntegerRowid : Row → Type 0
HasIntegerRowid r = IsTrue (is_int (rowid r))

-- A database has tables, with a schema and rows of closed as these say, if its rows are these. The
-- rowids of serials are integers, and no statement shows them as a column.
pub record HasTablesBy (IsSchema : Schema → Type 0) (AreClosed : List ClosedRow → Type 0)
    (db : Database) (tables : Tables) : Type 0 where
  pub schema : IsSchema db.schema
  pub heads : HaveSameRows (map shown_head tables.heads) (map head_columns (db.trees 0))
  pub calls : HaveSameRows (map shown_call tables.calls) (map call_columns (db.trees 1))
  pub ranges : HaveSameRows (map shown_range tables.ranges) (map range_columns (db.trees 3))
  pub serials : HaveSameRows (map shown_serial tables.serials) (map serial_columns (db.trees 4))
  pub numbered : AllByRecursion HasIntegerRowid (db.trees 4)
  pub closed : AreClosed tables.closed

-- A database has tables if it declares the five of a ledger, and its rows are these.
abbrev pub HasTables : Database → Tables → Type 0
HasTables db tables = HasTablesBy IsClosedSchema
    (λ rows. HaveSameRows (map shown_closed rows) (map closed_columns (db.trees 6))) db tables

-- A database has old tables if it declares the four of an earlier build and nothing else, and its
-- rows are these. No range is closed.
abbrev pub HasOldTables : Database → Tables → Type 0
HasOldTables db tables = HasTablesBy (λ s. s ≡ four_tables) (λ rows. rows ≡ []) db tables

-- A database stands for a history if its five tables have the rows of the history and no others.
abbrev pub StandsFor : Database → List Entry → Terms → Type 0
StandsFor db h t = HasTables db (tables_of h t)
