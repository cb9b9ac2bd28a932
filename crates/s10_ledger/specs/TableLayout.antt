-- Defines which of a ledger's tables a database has.
use Rattle.std.specs.Prelude.{◌≡◌, List, [], map}
use Rattle.sqlite_schema.specs.declared.schema.Schema.{Schema}
use Rattle.sqlite.specs.Effect.{Database}
use Rattle.s10_rows.specs.declared.closed_row.ClosedRow.{ClosedRow}
use Rattle.s10_rows.specs.Tables.{Tables, HaveSameRows}
use Rattle.s10_schema.specs.Schema.{IsClosedSchema, four_tables}
use Rattle.s10_statements.specs.Shown.{HasTables, HasOldTables, shown_closed, closed_columns}
use Rattle.s10_ledger.specs.declared.opening.table_layout.TableLayout.{TableLayout}
use Rattle.s10_ledger.specs.declared.opening.table_layout.TableLayout.TheVariants.{Whole, Old}

-- The schema declares the tables of this layout.
abbrev pub IsOfTableLayout : TableLayout → Schema → Type 0
IsOfTableLayout Whole s = IsClosedSchema s
IsOfTableLayout Old s = s ≡ four_tables

-- The tables of this layout have these rows. If closed is missing, no range is closed.
abbrev pub HasTableLayout : TableLayout → Database → Tables → Type 0
HasTableLayout Whole db tables = HasTables db tables
HasTableLayout Old db tables = HasOldTables db tables

-- The rows are those of closed: none if it is missing.
abbrev pub AreClosed : TableLayout → Database → List ClosedRow → Type 0
AreClosed Whole db rows = HaveSameRows (map shown_closed rows) (map closed_columns (db.trees 6))
AreClosed Old db rows = rows ≡ []
