-- The tables after the INSERT of a row.
use Rattle.std.proofs.Common.{◌≡◌, ◌==◌, ◌/◌, ℕ, pos, false, List, [], ◌∷◌, ◌++◌, Option, Some, None}
use Rattle.std.proofs.Common.{Ok, refl, sym, ap, subst, ◌∙◌, map, ℤ, length}
use Rattle.std.proofs.Math.Logic.{∥∥₁_map}
use Rattle.std.specs.List.Sorted.{IsPermutation}
use Rattle.sqlite_value.specs.declared.value.Value.TheVariants.{Null, Int, Blob}
use Rattle.sqlite_value.specs.Order.{Row}
use Rattle.sqlite_trees.specs.Tree.{Trees}
use Rattle.sqlite_sql.specs.Term.{Term}
use Rattle.sqlite_schema.specs.declared.command.Source.TheVariants.{Values}
use Rattle.sqlite_schema.specs.declared.command.Command.TheVariants.{Insert}
use Rattle.sqlite_rules.specs.declared.error.Rowids.TheVariants.{Chosen}
use Rattle.sqlite_rules.specs.Edit.{edit_of, next_rowid}
use Rattle.sqlite_schema.specs.declared.schema.Schema.{Schema}
use Rattle.sqlite.specs.Effect.{Database, value_rows}
use Rattle.sqlite.specs.Does.{Tally, Does, AtPlace, OnRows}
use Rattle.sqlite.specs.Rows.{Written}
use Rattle.sqlite.specs.Listing.{understood}
use Rattle.sqlite.specs.State.{State, mode_of, Executes}
use Rattle.sqlite.proofs.Callers.{statement_of, runs_as}
use Rattle.s10_history.specs.Settings.{Terms}
use Rattle.s10_schema.specs.Schema.{with_closed, closed_first, others_after_closed}
use Rattle.s10_schema.specs.Schema.{head_table, calls_table, ranges_table, serials_table}
use Rattle.s10_schema.specs.Schema.{closed_table, IsClosedSchema, is_own_tree}
use Rattle.s10_rows.specs.Tables.{Tables, head_row}
use Rattle.s10_statements.specs.Shown.{HasTables, shown_head, head_columns, shown_call}
use Rattle.s10_statements.specs.Shown.{call_columns, HasIntegerRowid, shown_range, range_columns}
use Rattle.s10_statements.specs.Shown.{shown_serial, serial_columns, shown_closed, closed_columns}
use Rattle.s10_statements.specs.Statements.{insert_head_sql, insert_call_sql, insert_range_sql}
use Rattle.s10_statements.specs.Statements.{insert_serial_sql, insert_closed_sql}
use Rattle.s10_statements.proofs.WriteTexts.{IsCommand, settings_means, keep_means, grant_means}
use Rattle.s10_statements.proofs.WriteTexts.{issue_means, close_means}
use Rattle.s10_statements.proofs.Apart.{no_works, not_head, is_as_it_was, after_apart, not_calls}
use Rattle.s10_statements.proofs.Apart.{not_ranges, not_serials, no_works_closed}
use Rattle.s10_statements.proofs.PutLemmas.{cast_int, cast_null, went, same_value, put_one, Spares}
use Rattle.std.proofs.lemmas.List.Sorted.{IsPermutation-map, IsPermutation-trans}
use Rattle.std.proofs.lemmas.List.Sorted.{IsPermutation-cons, IsPermutation-to_front}
use Rattle.s10_rows.specs.CallRow.{StoredCall}
use Rattle.s10_rows.specs.declared.range_row.RangeRow.{RangeRow}
use Rattle.s10_rows.specs.declared.serial_row.SerialRow.{SerialRow}
use Rattle.s10_statements.proofs.GoneLemmas.{all_moved}
use Rattle.s10_rows.specs.declared.closed_row.ClosedRow.{ClosedRow}
use Rattle.std.specs.Prelude.{slice_get}
use Rattle.sqlite_schema.specs.declared.schema.Table.{Table}
use Rattle.sqlite_rules.specs.Action.{works}

-- The row of the settings as it is stored, and the parameters of the statement.
abbrev stored_head : Terms → Row
stored_head t = Int (pos 1) ∷ Null ∷ Int (pos 1) ∷ Int (pos t.interval) ∷ Int (pos t.limit) ∷ []

abbrev pub given_settings : Terms → Row
given_settings t = Int (pos t.interval) ∷ Int (pos t.limit) ∷ []

-- The row of a call as it is stored.
abbrev stored_call : StoredCall → Row
stored_call c = Int c.arrival ∷ Null ∷ Int c.customer ∷ Int c.number ∷ Int c.day ∷ Blob c.reply ∷ []

-- The row of a range as it is stored.
abbrev pub stored_range : RangeRow → Row
stored_range r = Int r.num ∷ Null ∷ Int r.holder ∷ Int r.pair ∷ Int r.low ∷ Int r.high ∷ Int r.mark
    ∷ []

-- The row of a serial as it is stored.
abbrev stored_serial : ℤ → SerialRow → Row
stored_serial id r = Int id ∷ shown_serial r

-- The row of a closed range as it is stored.
abbrev stored_closed : ClosedRow → Row
stored_closed r = Int r.num ∷ Null ∷ Int r.arrival ∷ []

-- One row more, at the end of the typed rows.
pub one_more : {X : Type 0} (shown : X → Row) (columns : Row → Row) (xs : List X) (x : X)
    (old new : List Row) (row : Row) → columns row ≡ shown x → IsPermutation (row ∷ old) new
    → IsPermutation (map shown xs) (map columns old) → IsPermutation (map shown (xs ++ x ∷ []))
    (map columns new)
one_more {X} shown columns xs x old new row is put has =
    let turned : IsPermutation (map shown (xs ++ x ∷ [])) (map shown (x ∷ xs)) =
    IsPermutation-map shown _ _ (IsPermutation-to_front xs x) in
    let longer : IsPermutation (map shown (x ∷ xs)) (map columns (row ∷ old)) =
    rw is (IsPermutation-cons (shown x) (map shown xs) (map columns old) has) in
    IsPermutation-trans _ _ _ turned
    (IsPermutation-trans _ _ _ longer (IsPermutation-map columns (row ∷ old) new put))

-- A table without rules but its keys and its checks.
abbrev bare : Table → Table
bare t = record t {
  references = [];
  computed = [];
  stamps = record { places = []; terms = []; formats = [] };
  is_counted = false;
}

-- The database after an INSERT of one row.
record HasInserted (o : Schema) (tree : ℕ) (row : Row) (old new : Database) : Type 0 where
  pub schema : new.schema ≡ with_closed o
  pub put : IsPermutation (row ∷ old.trees tree) (new.trees tree)
  pub spares : Spares tree old.trees new.trees

-- An INSERT of one row that ran, under the schema of a ledger.
inserts : (o : Schema) (t : Table) {sql : List ℕ} {at width : ℕ} {terms : List Term}
    (old new : State) (params row : Row) (count : ℕ) → old.now.schema ≡ with_closed o
    → slice_get (with_closed o).tables at ≡ Some (bare t)
    → IsCommand (with_closed o) sql (Insert at (Values terms width))
    → ((news : List Row) → works (with_closed o) (mode_of old).keys 0 t.tree [] news ≡ [])
    → (edit_of old.now.trees (bare t) [] Chosen 0 (value_rows (params ++ []) width
    (length terms / width) terms)).news ≡ row ∷ []
    → Executes sql params old new (Ok count) → HasInserted o t.tree row old.now new.now
inserts o t {sql} {at} {width} {terms} old new params row count has there means none news h =
    let db = old.now.trees in
    let command = Insert at (Values terms width) in
    let w = runs_as sql params old new (with_closed o) has command means.is means.plain count h in
    let run = subst (λ s. Does old.step_limit (mode_of old) params (record old.now { schema = s })
    (statement_of sql (understood (with_closed o) sql)) None command (Ok (w.tally, new.now)))
    has w.changed in
    let done = went (subst (λ (x : Option Table). AtPlace (λ table. OnRows (record {
      limit = old.step_limit;
      keys = (mode_of old).keys;
      schema = with_closed o;
      table = table;
      params = params;
    }) (mode_of old) None command db) x (Ok (w.tally, new.now))) there run) in
    let now = ap (λ (p : Tally × Database). p.1) (same_value (went (went done.2).2).2) in
    let given = went done.1 in
    let written = went (went given.2).2 in
    let counted = went written.2 in
    let same : new.now.trees ≡ written.0 = ap (λ (d : Database). d.trees) now
    ∙ ap (λ (it : Written). it.trees) (same_value counted.2) ∙ same_value counted.1 in
    let edit = edit_of db (bare t) [] Chosen 0 given.0 in
    let put = put_one o (mode_of old).keys db written.0 edit row (none edit.news)
    (ap (λ all. (edit_of db (bare t) [] Chosen 0 all).news) given.1.1 ∙ news) written.1 in
    record {
      schema = ap (λ (d : Database). d.schema) now;
      put = subst (λ (s : Trees). IsPermutation (row ∷ db t.tree) (s t.tree)) (sym same) put.0;
      spares = subst (Spares t.tree db) (sym same) put.1;
    }

module _ (old new : State) (count : ℕ) (tables : Tables) (held : HasTables old.now tables) where
  -- The tables after the five of a ledger.
  abbrev o : Schema
  o = others_after_closed old.now.schema

  -- No foreign key acts on a new row of one of the first four tables.
  quiet : (tree : ℕ) → ((n : ℕ) → is_own_tree n ≡ false → (n == tree) ≡ false)
      → (news : List Row) → works (with_closed o) (mode_of old).keys 0 tree [] news ≡ []
  quiet tree own = no_works tree own (closed_first o) (after_apart old.now.schema held.schema)
      (mode_of old).keys 0 []

  -- The declarations stay those of a ledger.
  declared : new.now.schema ≡ with_closed o → IsClosedSchema new.now.schema
  declared same = is_as_it_was old.now.schema new.now.schema held.schema same

  began : (t : Terms) → Executes insert_head_sql (given_settings t) old new (Ok count)
      → HasInserted o 0 (stored_head t) old.now new.now
  began t = inserts o head_table old new (given_settings t) (stored_head t) count held.schema.is
      refl (settings_means o) (quiet 0 not_head) (rw (cast_int, cast_null, cast_int, cast_int))

  -- The declarations stay the same.
  pub as_declared : (t : Terms) → Executes insert_head_sql (given_settings t) old new (Ok count)
      → new.now.schema ≡ old.now.schema
  as_declared t h = (began t h).schema ∙ sym held.schema.is

  pub begins : (t : Terms) → Executes insert_head_sql (given_settings t) old new (Ok count)
      → HasTables new.now (record tables { heads = tables.heads ++ head_row t ∷ [] })
  begins t h =
      let it = began t h in
      record {
        schema = declared it.schema;
        heads = ∥∥₁_map held.heads (λ p. one_more shown_head head_columns tables.heads (head_row t)
            (old.now.trees 0) (new.now.trees 0) (stored_head t) refl it.put p);
        calls = rw (it.spares.calls refl) held.calls;
        ranges = rw (it.spares.ranges refl) held.ranges;
        serials = rw (it.spares.serials refl) held.serials;
        numbered = rw (it.spares.serials refl) held.numbered;
        closed = rw (it.spares.closed refl) held.closed;
      }

  pub keeps : (call : StoredCall) → Executes insert_call_sql (shown_call call) old new (Ok count)
      → HasTables new.now (record tables { calls = tables.calls ++ call ∷ [] })
  keeps call h =
      let row = stored_call call in
      let it = inserts o calls_table old new (shown_call call) row count held.schema.is refl (keep_means o)
      (quiet 1 not_calls) (rw (cast_int, cast_null, cast_int, cast_int, cast_int)) h in
      record {
        schema = declared it.schema;
        heads = rw (it.spares.head refl) held.heads;
        calls = ∥∥₁_map held.calls (λ p. one_more shown_call call_columns tables.calls call
            (old.now.trees 1) (new.now.trees 1) row refl it.put p);
        ranges = rw (it.spares.ranges refl) held.ranges;
        serials = rw (it.spares.serials refl) held.serials;
        numbered = rw (it.spares.serials refl) held.numbered;
        closed = rw (it.spares.closed refl) held.closed;
      }

  pub adds_range : (r : RangeRow) → Executes insert_range_sql (shown_range r) old new (Ok count)
      → HasTables new.now (record tables { ranges = tables.ranges ++ r ∷ [] })
  adds_range r h =
      let row = stored_range r in
      let it = inserts o ranges_table old new (shown_range r) row count held.schema.is refl (grant_means o)
      (quiet 3 not_ranges) (rw (cast_int, cast_null, cast_int, cast_int, cast_int, cast_int, cast_int)) h in
      record {
        schema = declared it.schema;
        heads = rw (it.spares.head refl) held.heads;
        calls = rw (it.spares.calls refl) held.calls;
        ranges = ∥∥₁_map held.ranges (λ p. one_more shown_range range_columns tables.ranges r
            (old.now.trees 3) (new.now.trees 3) row refl it.put p);
        serials = rw (it.spares.serials refl) held.serials;
        numbered = rw (it.spares.serials refl) held.numbered;
        closed = rw (it.spares.closed refl) held.closed;
      }

  pub adds_serial : (r : SerialRow) → Executes insert_serial_sql (shown_serial r) old new (Ok count)
      → HasTables new.now (record tables { serials = tables.serials ++ r ∷ [] })
  adds_serial r h =
      let row = stored_serial (next_rowid (old.now.trees 4)) r in
      let it = inserts o serials_table old new (shown_serial r) row count held.schema.is refl (issue_means o)
      (quiet 4 not_serials) (rw (cast_null, cast_int, cast_int, cast_int, cast_int, cast_int, cast_int, cast_int)) h in
      record {
        schema = declared it.schema;
        heads = rw (it.spares.head refl) held.heads;
        calls = rw (it.spares.calls refl) held.calls;
        ranges = rw (it.spares.ranges refl) held.ranges;
        serials = ∥∥₁_map held.serials (λ p. one_more shown_serial serial_columns tables.serials r
            (old.now.trees 4) (new.now.trees 4) row refl it.put p);
        numbered = all_moved HasIntegerRowid (row ∷ old.now.trees 4) (new.now.trees 4) it.put
            (refl, held.numbered);
        closed = rw (it.spares.closed refl) held.closed;
      }

  pub closes : (r : ClosedRow) → Executes insert_closed_sql (shown_closed r) old new (Ok count)
      → HasTables new.now (record tables { closed = tables.closed ++ r ∷ [] })
  closes r h =
      let row = stored_closed r in
      let it = inserts o closed_table old new (shown_closed r) row count held.schema.is refl (close_means o)
      (no_works_closed o (after_apart old.now.schema held.schema) held.schema.tables (mode_of
      old).keys 0 []) (rw (cast_int, cast_null, cast_int)) h in
      record {
        schema = declared it.schema;
        heads = rw (it.spares.head refl) held.heads;
        calls = rw (it.spares.calls refl) held.calls;
        ranges = rw (it.spares.ranges refl) held.ranges;
        serials = rw (it.spares.serials refl) held.serials;
        numbered = rw (it.spares.serials refl) held.numbered;
        closed = ∥∥₁_map held.closed (λ p. one_more shown_closed closed_columns tables.closed r
            (old.now.trees 6) (new.now.trees 6) row refl it.put p);
      }
