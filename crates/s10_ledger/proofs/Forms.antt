-- Which tables a database has, and what they show.
use Rattle.std.proofs.Common.{◌≡◌, length, map, refl, sym, ap, subst, arith}
use Rattle.std.specs.List.{AllByRecursion}
use Rattle.sqlite_schema.specs.declared.schema.Schema.{Schema}
use Rattle.sqlite.specs.Effect.{Database}
use Rattle.s10_rows.specs.Tables.{Tables, HaveSameRows}
use Rattle.s10_schema.specs.Schema.{IsLedgerSchema, IsClosedSchema, four_tables}
use Rattle.s10_statements.specs.Shown.{shown_head, shown_call, shown_range, shown_serial}
use Rattle.s10_statements.specs.Shown.{head_columns, call_columns, range_columns, serial_columns}
use Rattle.s10_statements.specs.Shown.{HasIntegerRowid}
use Rattle.s10_ledger.specs.declared.opening.table_layout.TableLayout.{TableLayout}
use Rattle.s10_ledger.specs.declared.opening.table_layout.TableLayout.TheVariants.{Whole, Old}
use Rattle.s10_ledger.specs.TableLayout.{IsOfTableLayout, HasTableLayout, AreClosed}

-- The four tables alone are declared as the first four of a ledger.
four_are : IsLedgerSchema four_tables
four_are = record { is = refl; tables = refl; indexes = refl }

pub form_ledger : (form : TableLayout) (s : Schema) → IsOfTableLayout form s → IsLedgerSchema s
form_ledger Whole s declared = declared.ledger
form_ledger Old s declared = subst IsLedgerSchema (sym declared) four_are

-- The four tables alone lack the fifth.
pub four_lack : (s : Schema) → s ≡ four_tables → IsClosedSchema s → ⊥
four_lack s four closed = omega (
  arith,
  ap (λ (x : Schema). length x.tables) four,
  ap (λ (x : Schema). length x.tables) closed.is,
)

pub form_declared : (form : TableLayout) (db : Database) (tables : Tables)
    → HasTableLayout form db tables → IsOfTableLayout form db.schema
form_declared Whole db tables has = has.schema
form_declared Old db tables has = has.schema

-- The first four tables show these rows.
pub record AreShown (db : Database) (tables : Tables) : Type 0 where
  pub heads : HaveSameRows (map shown_head tables.heads) (map head_columns (db.trees 0))
  pub calls : HaveSameRows (map shown_call tables.calls) (map call_columns (db.trees 1))
  pub ranges : HaveSameRows (map shown_range tables.ranges) (map range_columns (db.trees 3))
  pub serials : HaveSameRows (map shown_serial tables.serials) (map serial_columns (db.trees 4))

pub form_shown : (form : TableLayout) (db : Database) (tables : Tables)
    → HasTableLayout form db tables → AreShown db tables
form_shown Whole db tables has = record {
  heads = has.heads;
  calls = has.calls;
  ranges = has.ranges;
  serials = has.serials;
}
form_shown Old db tables has = record {
  heads = has.heads;
  calls = has.calls;
  ranges = has.ranges;
  serials = has.serials;
}

-- A database with these rows of its tables has that layout.
pub form_has : (form : TableLayout) (db : Database) (tables : Tables)
    → IsOfTableLayout form db.schema → AreShown db tables
    → AllByRecursion HasIntegerRowid (db.trees 4) → AreClosed form db tables.closed
    → HasTableLayout form db tables
form_has Whole db tables declared shown numbered closed =
    record {
      schema = declared;
      heads = shown.heads;
      calls = shown.calls;
      ranges = shown.ranges;
      serials = shown.serials;
      numbered = numbered;
      closed = closed;
    }
form_has Old db tables declared shown numbered closed =
    record {
      schema = declared;
      heads = shown.heads;
      calls = shown.calls;
      ranges = shown.ranges;
      serials = shown.serials;
      numbered = numbered;
      closed = closed;
    }
