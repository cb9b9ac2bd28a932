-- Defines why an opening is refused.
use Rattle.std.specs.Prelude.{◌≢◌, ◌⊎◌, ⊤}
use Rattle.std.specs.Ordering.{int_cmp}
use Rattle.std.specs.declared.cmp.Ordering.TheVariants as Ordering
use Rattle.sqlite_trees.specs.Tree.{IsAscending}
use Rattle.sqlite.specs.Effect.{Database}
use Rattle.s10_rows.specs.declared.open_fault.OpenFault.{OpenFault}
use Rattle.s10_rows.specs.declared.open_fault.OpenFault.TheVariants.{NotALedger}
use Rattle.s10_rows.specs.declared.open_fault.OpenFault.TheVariants.{Schema as OtherSchema, Damaged}
use Rattle.s10_rows.specs.declared.open_fault.OpenFault.TheVariants.{NotEmpty, Memory, Store}
use Rattle.s10_rows.specs.Tables.{Tables}
use Rattle.s10_replay.specs.CheckedTables.{IsRefusal}
use Rattle.sqlite_schema.specs.declared.schema.Schema.{Schema}
use Rattle.s10_ledger.specs.declared.opening.table_layout.TableLayout.{TableLayout}
use Rattle.s10_ledger.specs.TableLayout.{IsOfTableLayout, HasTableLayout}

-- The database has a ledger's tables with these rows, those of calls in order of arrival.
pub record HasRows (db : Database) (tables : Tables) : Type 0 where
  pub form : TableLayout
  pub has : HasTableLayout form db tables
  pub in_order : IsAscending (λ a b. int_cmp a.arrival b.arrival ≢ Ordering.Greater) tables.calls

-- The rows of the database are refused with this fault.
pub record IsRefusedFor (db : Database) (fault : OpenFault) : Type 0 where
  pub tables : Tables
  pub rows : HasRows db tables
  pub refusal : IsRefusal tables fault

-- The tables of a ledger are declared: all five, or the four of an earlier build.
abbrev pub HasSomeTableLayout : Schema → Type 0
HasSomeTableLayout s = (form : TableLayout) × IsOfTableLayout form s

-- The fault is why the opening of this database is refused.
abbrev pub IsOpeningRefusal : Database → OpenFault → Type 0
IsOpeningRefusal db NotALedger = (¬ HasSomeTableLayout db.schema) ⊎ IsRefusedFor db NotALedger
IsOpeningRefusal db (OtherSchema n) = IsRefusedFor db (OtherSchema n)
IsOpeningRefusal db (Damaged k) = IsRefusedFor db (Damaged k)
IsOpeningRefusal db NotEmpty = ⊥
IsOpeningRefusal db Memory = ⊤
IsOpeningRefusal db Store = ⊤
