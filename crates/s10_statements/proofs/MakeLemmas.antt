-- The database after the statements that create a ledger in an empty one.
use Rattle.std.proofs.Common.{◌≡◌, ℕ, List, [], ◌∷◌, ◌++◌, false, None, Ok, Result, refl, sym, ap}
use Rattle.std.proofs.Common.{subst, ◌∙◌}
use Rattle.std.specs.Borrow.{MutBor}
use Rattle.std.specs.List.{AllByRecursion}
use Rattle.std.proofs.lemmas.List.Sorted.{IsPermutation-refl}
use Rattle.sqlite_schema.specs.declared.schema.Schema.{Schema}
use Rattle.sqlite_schema.specs.declared.schema.Table.{Table}
use Rattle.sqlite_schema.specs.declared.command.Command.TheVariants.{CreateTable}
use Rattle.sqlite_resolve.specs.Compile.{table_defined_by}
use Rattle.sqlite_catalog.specs.Change.{created, next_tree, KeepsRows}
use Rattle.sqlite_tied.specs.Compute.{everything}
use Rattle.sqlite_trees.specs.Tree.{Trees}
use Rattle.sqlite_trees.specs.declared.store.Store.{Ghosts}
use Rattle.sqlite.specs.declared.error.Error.{Error}
use Rattle.sqlite.specs.Held.{Held, state}
use Rattle.sqlite.specs.Does.{Tally, lacks_sequence}
use Rattle.sqlite.specs.Effect.{Database}
use Rattle.sqlite.specs.Given.{IsPlain}
use Rattle.sqlite.specs.Listing.{understood}
use Rattle.sqlite.specs.State.{State, Writes, Executes}
use Rattle.sqlite.proofs.Callers.{command_of, statement_of, runs_as}
use Rattle.s10_schema.specs.Schema.{IsClosedSchema, ledger_schema, four_tables, no_schema}
use Rattle.s10_schema.specs.Schema.{head_table, calls_table, ranges_table, serials_table}
use Rattle.s10_schema.specs.Schema.{closed_table, calls_index}
use Rattle.s10_statements.specs.Statements.{create_head_sql, create_calls_sql, create_ranges_sql}
use Rattle.s10_statements.specs.Statements.{create_serials_sql, create_closed_sql}
use Rattle.s10_rows.specs.Tables.{Tables, no_rows}
use Rattle.s10_statements.specs.Shown.{HasTables, HasOldTables}
use Rattle.s10_statements.specs.ConnectionState.{IsOpen}
use Rattle.s10_statements.specs.Steps.{IsStep}
use Rattle.s10_statements.proofs.StepLemmas.{Succeeds, step_none, step_then}
use Rattle.s10_statements.proofs.PutLemmas.{went, same_value}

abbrev pub one_table : Schema
one_table = record { tables = head_table ∷ []; indexes = []; views = [] }

abbrev pub two_tables : Schema
two_tables = record {
  tables = head_table ∷ calls_table ∷ [];
  indexes = calls_index ∷ [];
  views = [];
}

abbrev pub three_tables : Schema
three_tables = record {
  tables = head_table ∷ calls_table ∷ ranges_table ∷ [];
  indexes = calls_index ∷ [];
  views = [];
}

-- Under the schema the text declares the table, which gives the next schema.
pub record Defines (schema : Schema) (text : List ℕ) (table : Table) (next : Schema) : Type 0 where
  pub command : command_of (understood schema text) ≡ CreateTable
  pub plain : IsPlain (understood schema text)
  pub whole : statement_of text (understood schema text) ≡ text
  pub defined : table_defined_by text ≡ Ok table
  pub is : created schema table ≡ next
  pub uncounted : lacks_sequence next ≡ false

pub head_defined : Defines no_schema create_head_sql (record head_table { tree = 0 }) one_table
unfolding understood everything
head_defined = record {
  command = refl;
  plain = (refl, refl);
  whole = refl;
  defined = refl;
  is = refl;
  uncounted = refl;
}

pub calls_defined : Defines one_table create_calls_sql (record calls_table { tree = 0 }) two_tables
unfolding understood everything
calls_defined = record {
  command = refl;
  plain = (refl, refl);
  whole = refl;
  defined = refl;
  is = refl;
  uncounted = refl;
}

pub ranges_defined : Defines two_tables create_ranges_sql (record ranges_table { tree = 0 })
    three_tables
unfolding understood everything
ranges_defined = record {
  command = refl;
  plain = (refl, refl);
  whole = refl;
  defined = refl;
  is = refl;
  uncounted = refl;
}

pub serials_defined : Defines three_tables create_serials_sql (record serials_table { tree = 0 })
    four_tables
unfolding understood everything
serials_defined = record {
  command = refl;
  plain = (refl, refl);
  whole = refl;
  defined = refl;
  is = refl;
  uncounted = refl;
}

pub closed_defined : Defines four_tables create_closed_sql (record closed_table { tree = 0 })
    ledger_schema
unfolding understood everything
closed_defined = record {
  command = refl;
  plain = (refl, refl);
  whole = refl;
  defined = refl;
  is = refl;
  uncounted = refl;
}

-- The next schema is declared; the new table is empty, and the others are as they were.
pub record IsNext (schema next : Schema) (old new : Database) : Type 0 where
  pub schema_is : new.schema ≡ next
  pub empty : new.trees (next_tree schema) ≡ []
  pub others : KeepsRows schema.tables old.trees new.trees

pub makes : (schema : Schema) (text : List ℕ) (table : Table) (next : Schema)
    → Defines schema text table next → (old new : State) (count : ℕ) → old.now.schema ≡ schema
    → Executes text [] old new (Ok count)
    → IsNext schema next old.now new.now
makes schema text table next d old new count has h =
    let w = subst (λ t. Writes old new None CreateTable t [] count) d.whole
    (runs_as text [] old new schema has CreateTable d.command d.plain count h) in
    let all = went w.changed in
    let first = went all.1 in
    let made = first.1 in
    let both : Ok made.table ≡ Ok table = sym made.defined ∙ d.defined in
    let same : made.table ≡ table = same_value both in
    let schema_is : first.0.schema ≡ next = made.is ∙ ap (λ s. created s made.table) has
    ∙ ap (created schema) same ∙ d.is in
    let plain : lacks_sequence first.0.schema ≡ false = ap lacks_sequence schema_is ∙ d.uncounted in
    let now : new.now ≡ first.0 = ap (λ (p : Tally × Database). p.1) (same_value all.2)
    ∙ same_value (rw plain at first.2) in
    record {
      schema_is = ap (λ (b : Database). b.schema) now ∙ schema_is;
      empty = ap (λ (b : Database). b.trees (next_tree schema)) now
          ∙ subst (λ s. first.0.trees (next_tree s) ≡ []) has made.empty;
      others = subst (λ (b : Database). KeepsRows schema.tables old.now.trees b.trees) (sym now)
          (subst (λ (s : Schema). KeepsRows s.tables old.now.trees first.0.trees) has made.others);
    }

pub is_ledger : IsClosedSchema ledger_schema
is_ledger = record {
  ledger = record { is = refl; tables = refl; indexes = refl };
  is = refl;
  tables = refl;
  indexes = refl;
}

-- The schema is declared, and its tables are empty.
pub record HasEmpty (schema : Schema) (db : Database) : Type 0 where
  pub schema_is : db.schema ≡ schema
  pub empty : AllByRecursion (λ t. db.trees t.tree ≡ []) schema.tables

empty_still : (ts : List Table) (t : Table) (old new : Trees) → KeepsRows ts old new
    → AllByRecursion (λ t. old t.tree ≡ []) ts → new t.tree ≡ []
    → AllByRecursion (λ t. new t.tree ≡ []) (ts ++ t ∷ [])
empty_still [] t old new same all last = (last, tt)
empty_still (x ∷ ts) t old new same all last =
    (same.0 ∙ all.0, empty_still ts t old new same.1 all.1 last)

-- In an empty database, the statement after those that declared the schema.
pub made_next : {S T U : Type 0} {g : Ghosts S} {a b c : MutBor (Held S)} {x : T}
    {r : Result U Error} {schema : Schema} {text : List ℕ} {table : Table} {next : Schema}
    → Defines schema text table next
    → IsStep g a b (Ok x) ((state g a.now).now.schema ≡ no_schema
    → HasEmpty schema (state g b.now).now)
    → IsStep g b c r (IsOpen g b.now × ((count : ℕ) × Executes text [] (state g b.now)
    (state g c.now) (Ok count)))
    → IsStep g a c r ((state g a.now).now.schema ≡ no_schema → HasEmpty next (state g c.now).now)
made_next {g = g} {b = b} {c = c} {schema = schema} {text = text} {table = table} {next = next} d
    so_far run =
    step_then so_far run (λ made ran none.
    let was = made none in
    let n = makes schema text table next d (state g b.now) (state g c.now) ran.1.0
    was.schema_is ran.1.1 in
    record {
      schema_is = n.schema_is;
      empty = subst (λ (s : Schema). AllByRecursion (λ t. (state g c.now).now.trees t.tree ≡ [])
          s.tables) d.is (empty_still schema.tables (record table { tree = next_tree schema })
          (state g b.now).now.trees (state g c.now).now.trees n.others was.empty n.empty);
    })

pub none_made : {S : Type 0} (g : Ghosts S) (a : MutBor (Held S))
    → Succeeds g a a ((state g a.now).now.schema ≡ no_schema
    → HasEmpty no_schema (state g a.now).now)
none_made g a = step_none g a (λ none. record { schema_is = none; empty = tt })

pub all_made : (db : Database) → HasEmpty ledger_schema db → HasTables db no_rows
all_made db it = record {
  schema = subst IsClosedSchema (sym it.schema_is) is_ledger;
  heads = rw it.empty.0 (∣ IsPermutation-refl [] ∣₁);
  calls = rw it.empty.1.0 (∣ IsPermutation-refl [] ∣₁);
  ranges = rw it.empty.1.1.0 (∣ IsPermutation-refl [] ∣₁);
  serials = rw it.empty.1.1.1.0 (∣ IsPermutation-refl [] ∣₁);
  numbered = rw it.empty.1.1.1.0 tt;
  closed = rw it.empty.1.1.1.1.0 (∣ IsPermutation-refl [] ∣₁);
}

-- The fifth statement alone, in a database of an earlier build.
pub gets_closed : (old new : State) (count : ℕ) (tables : Tables) → HasOldTables old.now tables
    → Executes create_closed_sql [] old new (Ok count) → HasTables new.now tables
gets_closed old new count tables held h =
    let e = makes four_tables create_closed_sql (record closed_table { tree = 0 }) ledger_schema
    closed_defined old new count held.schema h in
    let closed : new.now.trees 6 ≡ [] = e.empty in
    record {
      schema = subst IsClosedSchema (sym e.schema_is) is_ledger;
      heads = rw e.others.0 held.heads;
      calls = rw e.others.1.0 held.calls;
      ranges = rw e.others.1.1.0 held.ranges;
      serials = rw e.others.1.1.1.0 held.serials;
      numbered = rw e.others.1.1.1.0 held.numbered;
      closed = rw (closed, held.closed) (∣ IsPermutation-refl [] ∣₁);
    }
