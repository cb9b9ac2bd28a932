-- The tables after the write of a serial.
use Rattle.std.proofs.Common.{◌≡◌, inl, inr, arith, ℕ, suc, ℤ, ◌≤◌, drop, List, [], ◌∷◌, ◌++◌}
use Rattle.std.proofs.Common.{length, map, filter, Bool, true, false, not, ◌&&◌, ◌||◌, Option}
use Rattle.std.proofs.Common.{Some, None, unwrap_or, Ok, refl, sym, ap, subst, ◌∙◌, int_eq, is_eq}
use Rattle.std.proofs.Math.Logic.{∥∥₁_map, ∥∥₁_elim, ∥∥₁_prop}
use mathlib.Core.Bool.{Bool-set}
use Rattle.sqlite_trees.specs.Props.{AllByRecursion-prop}
use Rattle.std.specs.List.{AllByRecursion}
use Rattle.std.specs.List.Sorted.{IsPermutation}
use Rattle.std.proofs.lemmas.List.Sorted.{length_permutation}
use Rattle.sqlite_value.specs.declared.keys.Collation.TheVariants.{Binary}
use Rattle.sqlite_value.specs.declared.value.Value.{Value}
use Rattle.sqlite_value.specs.declared.value.Value.TheVariants.{Null, Int}
use Rattle.sqlite_value.specs.Keys.{first_key}
use Rattle.sqlite_value.specs.Order.{Row, column}
use Rattle.sqlite_value.proofs.OrderLemmas.{value_cmp-Int}
use Rattle.sqlite_trees.specs.Tree.{Trees, rowid, put_row, has_rowid}
use Rattle.sqlite_sql.specs.declared.ops.BinaryOp.TheVariants.{Compare}
use Rattle.sqlite_sql.specs.declared.ops.CompareOp.TheVariants.{Eq}
use Rattle.sqlite_sql.specs.Ops.{binary, is_true}
use Rattle.sqlite_sql.specs.Query.{IsAnswer}
use Rattle.sqlite_sql.specs.Program.{overlay}
use Rattle.sqlite_schema.specs.declared.schema.Keys.TheVariants.{Enforced}
use Rattle.sqlite_schema.specs.declared.schema.Schema.{Schema}
use Rattle.sqlite_schema.specs.declared.command.Source.TheVariants.{Values}
use Rattle.sqlite_schema.specs.declared.command.Conflict.TheVariants.{Abort}
use Rattle.sqlite_schema.specs.declared.command.Command.TheVariants.{InsertOr}
use Rattle.sqlite_rules.specs.declared.error.Rowids.TheVariants.{Given}
use Rattle.sqlite_rules.specs.declared.error.Refusal.{Refusal}
use Rattle.sqlite_rules.specs.Cast.{cast_row}
use Rattle.sqlite_rules.specs.Calls.{ids_of}
use Rattle.sqlite_rules.specs.Keys.{AreConflicts, conflicts}
use Rattle.sqlite_rules.specs.Lists.{Has}
use Rattle.sqlite_rules.specs.Edit.{taken_by, edit_of, next_rowid, numbered, with_rowid}
use Rattle.sqlite_rules.specs.Edit.{without_all}
use Rattle.sqlite_rules.specs.Action.{Writes as sqlWrites}
use Rattle.std.proofs.lemmas.Int.{ints}
use Rattle.sqlite_rules.proofs.ListLemmas.{has_kept, all_has}
use Rattle.sqlite_keyed.proofs.ListLemmas.{filter-map, IsPermutation-filter}
use Rattle.sqlite_typed.proofs.TestLemmas.{at_ints, then_term, last_term}
use Rattle.sqlite.specs.declared.run.Mode.{Mode}
use Rattle.sqlite.specs.Effect.{Database}
use Rattle.sqlite.specs.Does.{Tally, Does}
use Rattle.sqlite.specs.Rows.{Written, Task, Tries, Judged, Upserts, Meets, Clears, Puts, Updates}
use Rattle.sqlite.specs.Rows.{TriesEach, nothing, count_of, rowids_for, mended, shown}
use Rattle.sqlite.specs.Listing.{understood}
use Rattle.sqlite.specs.State.{State, mode_of, Executes}
use Rattle.sqlite.proofs.Callers.{statement_of, runs_as, one_permutation}
use Rattle.s10_rows.specs.declared.serial_row.SerialRow.{SerialRow}
use Rattle.s10_rows.specs.declared.serial_write.SerialWrite.TheVariants.{Again}
use Rattle.s10_schema.specs.Schema.{with_closed, closed_first, others_after_closed, are_apart}
use Rattle.s10_schema.specs.Schema.{index_apart, serials_table}
use Rattle.s10_rows.specs.Tables.{Tables}
use Rattle.s10_rows.specs.RowWrites.{is_at, with_serial}
use Rattle.s10_statements.specs.Shown.{HasTables, shown_serial, serial_columns, HasIntegerRowid}
use Rattle.s10_statements.specs.Statements.{upsert_serial_sql}
use Rattle.s10_statements.proofs.WriteTexts.{issue_terms, again_means, issue_upsert, update_query}
use Rattle.s10_statements.proofs.Apart.{no_works, none_shares, not_serials, is_as_it_was}
use Rattle.s10_statements.proofs.Apart.{after_apart}
use Rattle.s10_statements.proofs.ReadLemmas.{kept_are, rows_are}
use Rattle.sqlite_keyed.proofs.ListLemmas.{filter_same, all_unmap, all-map, all-filter}
use Rattle.s10_statements.proofs.PutLemmas.{cast_int, cast_null, went, same_value, Spares, put_one}
use Rattle.s10_statements.proofs.InsertLemmas.{one_more}
use Rattle.s10_statements.proofs.GoneLemmas.{all_moved, HasId, all_ids, same_int, has_id, stays}
use Rattle.std.proofs.lemmas.List.{length-map}
use Rattle.std.proofs.lemmas.Bool.{and_parts}

-- Whether the columns are those of the row's identifier.
abbrev pub at_key : SerialRow → Row → Bool
at_key r v = is_true (binary (Compare Eq Binary) (column v 0) (Int r.pair))
    && (is_true (binary (Compare Eq Binary) (column v 1) (Int r.serial)) && true)

abbrev pub others : SerialRow → List Row → List Row
others r = filter (λ x. not (at_key r (serial_columns x)))

-- A row that shows as this one replaces those of its identifier, and the other tables stay the
-- same.
pub record Upserted (old new : Trees) (r : SerialRow) : Type 0 where
  pub row : Row
  pub is_numbered : HasIntegerRowid row
  pub shows : serial_columns row ≡ shown_serial r
  pub put : IsPermutation (row ∷ others r (old 4)) (new 4)
  pub spared : Spares 4 old new

abbrev pub new_row : ℤ → SerialRow → Row
new_row id r = Int id ∷ shown_serial r

abbrev pub task_of : Schema → Option ℕ → Row → Task
task_of o limit params = record {
  limit = limit;
  keys = Enforced;
  schema = with_closed o;
  table = serials_table;
  params = params;
}

cast_same : (id : ℤ) (r : SerialRow) → cast_row serials_table (new_row id r) ≡ new_row id r
cast_same id r = rw (cast_int, cast_int, cast_int, cast_int, cast_int, cast_int, cast_int, cast_int)

-- Lists.

or_false : (b : Bool) → (b || false) ≡ b
or_false true = refl
or_false false = refl

filter_on : {X : Type 0} (p q : X → Bool) (xs : List X) → ((x : X) → Has xs x → p x ≡ q x)
    → filter p xs ≡ filter q xs
filter_on p q [] same = refl
filter_on p q (x ∷ xs) same = rw (same x (inl refl), filter_on p q xs (λ y has. same y (inr has)))

keeps_all : {X : Type 0} (p : X → Bool) (xs : List X) → ((x : X) → Has xs x → p x ≡ true)
    → filter p xs ≡ xs
keeps_all p [] each = refl
keeps_all p (x ∷ xs) each = rw (each x (inl refl), keeps_all p xs (λ y has. each y (inr has)))

-- A list with this element, and at most one, has this element alone.
alone : {X : Type 0} (xs : List X) (x : X) → Has xs x → length xs ≤ 1 → xs ≡ x ∷ []
alone [] x has len = absurd has
alone (y ∷ []) x (inl same) len = ap (λ z. z ∷ []) (sym same)
alone (y ∷ []) x (inr more) len = absurd more
alone (y ∷ z ∷ more) x has len = absurd (omega arith)

only : {X : Type 0} (x y : X) → Has (x ∷ []) y → y ≡ x
only x y (inl same) = same
only x y (inr more) = absurd more

by_case : (a b : Bool) → (a ≡ true → b ≡ true) → (b ≡ true → a ≡ true) → a ≡ b
by_case true true f g = refl
by_case true false f g = sym (f refl)
by_case false true f g = g refl
by_case false false f g = refl

-- A new identifier.

module _ (o : Schema) (apart : are_apart o.tables ≡ true) (limit : Option ℕ) (params : Row) (id : ℤ)
    (r : SerialRow) where
  puts : (db : Trees) (one : Written) → ((x : Row) → Has (db 4) x → at_key r (serial_columns x)
      ≡ false) → Puts (task_of o limit params) (new_row id r) db (Ok one) → Upserted db one.trees r
  puts db one none h =
      let w = went h in
      let edit = edit_of db serials_table [] Given 0 (new_row id r ∷ []) in
      let a = put_one o Enforced db w.0 edit (new_row id r) (no_works 4 not_serials (closed_first o)
      apart Enforced 0 (taken_by db edit) edit.news) (rw (cast_same id r)) w.1 in
      let same : one.trees ≡ w.0 = ap (λ (it : Written). it.trees) (same_value w.2) in
      let left : others r (db 4) ≡ db 4 = keeps_all (λ x. not (at_key r (serial_columns x))) (db 4)
      (λ x has. ap not (none x has)) in
      subst (λ (n : Trees). Upserted db n r) (sym same) (record {
        row = new_row id r;
        is_numbered = refl;
        shows = refl;
        put = rw left a.0;
        spared = a.1;
      })

-- An identifier that has a row.

abbrev pub update_columns : SerialRow → Row → Row
update_columns r x = column x 0 ∷ column x 0 ∷ column x 1 ∷ column x 2 ∷ Int r.arrival ∷ Int r.day
    ∷ Int r.customer ∷ Int r.number ∷ Int r.voided ∷ []

abbrev no_key : Row → Row
no_key v = []

abbrev pub same_id : Value → Row → Bool
same_id id v = is_true (binary (Compare Eq Binary) (column v 0) id) && true

module _ (limit : Option ℕ) (params : Row) (id : ℤ) (r : SerialRow) (there : Row) where
  abbrev pub given : Row
  given = shown_serial r ++ rowid there ∷ shown serials_table (new_row id r)

  answer_rows : (db : Trees) (rows : List Row) → IsAnswer update_query (overlay db []) given rows
      → IsPermutation (filter (same_id (rowid there)) (map (update_columns r) (db 4))) rows
  answer_rows db rows a =
      rows_are given update_query (db 4) (update_columns r) no_key (same_id (rowid there))
      (λ x. refl) (λ x. refl) a.kept a.ordered rows
      (kept_are given update_query (db 4) (update_columns r) no_key (same_id (rowid there))
      (λ x. refl) (λ x. refl) a.staged a.kept a.grouped a.distinct) a.same a.shown

int_same : (k : ℤ) → int_eq k k ≡ true
int_same k = grind (arith, ints)

pub length_numbered : (left sources : List Row) → length (numbered Given left sources)
    ≡ length sources
length_numbered left [] = refl
length_numbered left (s ∷ sources) = ap suc (length_numbered (put_row s left) sources)

abbrev pub key_of : SerialRow → Row → Bool
key_of r x = at_key r (serial_columns x)

module _ (o : Schema) (apart : are_apart o.tables ≡ true) (limit : Option ℕ) (params : Row)
    (id k : ℤ) (r : SerialRow) (there r0 : Row) (is_there : rowid there ≡ Int k)
    (e0 : column r0 0 ≡ Int k) (e1 : column r0 1 ≡ Int r.pair)
    (e2 : column r0 2 ≡ Int r.serial) where
  abbrev pub full : Row
  full = Int k ∷ Int k ∷ Int r.pair ∷ Int r.serial ∷ Int r.arrival ∷ Int r.day ∷ Int r.customer
      ∷ Int r.number ∷ Int r.voided ∷ []

  module _ (rows : List Row) (numbers : AllByRecursion HasId rows) (has : Has rows r0) where
    same_there : (x : Row) → Has rows x → same_id (rowid there) (update_columns r x) ≡ has_rowid k x
    same_there x hx =
        let n = all_has HasId rows x numbers hx in
        rw (is_there, n.1) (last_term (at_ints false Eq n.0 k)
        ∙ sym (ap is_eq (value_cmp-Int n.0 k)))

    r0_has : has_rowid k r0 ≡ true
    r0_has = has_id k k r0 e0 ∙ int_same k

    matched : filter (same_id (rowid there)) (map (update_columns r) rows) ≡ map (update_columns r)
        (filter (has_rowid k) rows)
    matched =
        filter-map (same_id (rowid there)) (update_columns r) rows ∙ ap (map (update_columns r))
        (filter_on (λ x. same_id (rowid there) (update_columns r x)) (has_rowid k) rows
        same_there)

    -- One row was found, so it is this one.
    found_one : (found : List Row)
        → IsPermutation (filter (same_id (rowid there)) (map (update_columns r) rows)) found
        → length found ≡ 1
        → (filter (has_rowid k) rows ≡ r0 ∷ []) × (found ≡ full ∷ [])
    found_one found p one =
        let q : IsPermutation (map (update_columns r) (filter (has_rowid k) rows)) found =
        subst (λ l. IsPermutation l found) matched p in
        let count : length (filter (has_rowid k) rows) ≤ 1 =
        omega (
          arith,
          length_permutation (map (update_columns r) (filter (has_rowid k) rows))
              found q,
          length-map (filter (has_rowid k) rows) (update_columns r),
        ) in
        let single : filter (has_rowid k) rows ≡ r0 ∷ [] = alone (filter (has_rowid k) rows) r0
        (has_kept (has_rowid k) rows r0 has r0_has) count in
        let it : update_columns r r0 ≡ full = rw (e0, e1, e2) refl in (
          single,
          one_permutation full found (subst (λ l. IsPermutation l found)
              (ap (map (update_columns r)) single ∙ ap (λ v. v ∷ []) it) q),
        )

    -- The rows that stay are those of other identifiers.
    stay_others : key_of r r0 ≡ true → length (filter (key_of r) rows) ≤ 1
        → filter (has_rowid k) rows ≡ r0 ∷ [] → filter (stays k) rows ≡ others r rows
    stay_others key len single =
        let keyed : filter (key_of r) rows ≡ r0 ∷ [] =
        alone (filter (key_of r) rows) r0 (has_kept (key_of r) rows r0 has key) len in
        filter_on (stays k) (λ x. not (key_of r x)) rows
        (λ x hx. ap not (by_case (has_rowid k x) (key_of r x)
        (λ h. rw (only r0 x (subst (λ l. Has l x) single (has_kept (has_rowid k) rows x hx h))) key)
        (λ h. rw (only r0 x (subst (λ l. Has l x) keyed (has_kept (key_of r) rows x hx h)))
        r0_has)))

  updated : (db : Trees) (one : Written) → AllByRecursion HasId (db 4) → Has (db 4) r0
      → key_of r r0 ≡ true → length (filter (key_of r) (db 4)) ≤ 1
      → Updates (task_of o limit params) (record { lets = []; body = update_query })
      (given limit params id r there) db (Ok one) → length one.rows ≡ 1
      → Upserted db one.trees r
  updated db one numbers has key len h count =
      let w = went h in
      let v = went w.2 in
      let same_one : one ≡ record {
        trees = v.0;
        rows = (edit_of db serials_table (ids_of w.0) Given 1 w.0).news;
        last = None;
      } =
      same_value v.2 in
      let counted : length w.0 ≡ 1 =
      sym (length-map w.0 (λ s. cast_row serials_table (drop 1 s)))
      ∙ sym (length_numbered (without_all (db 4) (ids_of w.0))
      (map (λ s. cast_row serials_table (drop 1 s)) w.0))
      ∙ ap (λ (it : Written). length it.rows) (sym same_one) ∙ count in
      let f = found_one (db 4) numbers has w.0 (answer_rows limit params id r there db w.0
      (w.1.answer Null)) counted in
      let wrote = subst (λ rows. sqlWrites (with_closed o) Enforced db
      (edit_of db serials_table (ids_of rows) Given 1 rows) (Ok v.0)) f.1 v.1 in
      let edit = edit_of db serials_table (ids_of (full ∷ [])) Given 1 (full ∷ []) in
      let a = put_one o Enforced db v.0 edit (new_row k r) (no_works 4 not_serials (closed_first o)
      apart Enforced 0 (taken_by db edit) edit.news) (rw (cast_same k r)) wrote in
      let stay : filter (stays k) (db 4) ≡ others r (db 4) = stay_others (db 4) numbers has key len
      f.0 in
      subst (λ (n : Trees). Upserted db n r) (sym (ap (λ (it : Written). it.trees) same_one))
      (record {
        row = new_row k r;
        is_numbered = refl;
        shows = refl;
        put = rw (← stay) a.0;
        spared = a.1;
      })

-- The rows that conflict are those of the identifier.

conflict_is : (o : Schema) → index_apart o.indexes ≡ true → (id : ℤ) (r : SerialRow) (x : Row)
    → conflicts (Some (1 ∷ 2 ∷ [])) (with_closed o).indexes serials_table (new_row id r) x
    ≡ at_key r (serial_columns x)
unfolding first_key
conflict_is o apart id r x =
    rw (none_shares 4 not_serials (Some (1 ∷ 2 ∷ [])) serials_table refl (new_row id r) x o.indexes
    apart) (or_false (at_key r (serial_columns x)))

abbrev pub IsShown : Row → Type 0
IsShown v = (s : SerialRow) × (v ≡ shown_serial s)

key_typed : (r s : SerialRow) → at_key r (shown_serial s) ≡ is_at r.pair r.serial s
key_typed r s = then_term (at_ints false Eq s.pair r.pair)
    (last_term (at_ints false Eq s.serial r.serial))

module _ (o : Schema) (apart : are_apart o.tables ≡ true) (behind : index_apart o.indexes ≡ true)
    (limit : Option ℕ) (id : ℤ) (r : SerialRow) (db : Trees) (one : Written)
    (numbers : AllByRecursion HasId (db 4))
    (typed : AllByRecursion (λ x. IsShown (serial_columns x)) (db 4))
    (len : length (filter (key_of r) (db 4)) ≤ 1) (count : length one.rows ≡ 1) where
  abbrev task : Task
  task = task_of o limit (shown_serial r)

  abbrev AreFound : List Row → Type 0
  AreFound found = AreConflicts (Some (1 ∷ 2 ∷ [])) (with_closed o).indexes serials_table (db 4)
      (new_row id r) found

  none_there : AreFound [] → (x : Row) → Has (db 4) x → at_key r (serial_columns x) ≡ false
  none_there hit x has =
      go (at_key r (serial_columns x)) (λ is. hit.complete x has (conflict_is o behind id r x ∙ is))
    where
      go : (b : Bool) → (b ≡ true → ⊥) → b ≡ false
      go true never = absurd (never refl)
      go false never = refl

  cleared : AreFound [] → (found : List Row) → Clears task Abort (new_row id r) db found (Ok one)
      → Upserted db one.trees r
  cleared hit [] h = puts o apart limit (shown_serial r) id r db one (none_there hit) h
  cleared hit (x ∷ more) h = puts o apart limit (shown_serial r) id r db one (none_there hit) h

  met : (found : List Row) → AreFound found → Meets task (Upserts task Abort (new_row id r) db [])
      (new_row id r) db issue_upsert found (Ok one) → Upserted db one.trees r
  met [] hit h = cleared hit h.0 h.2
  met (there ∷ more) hit h =
      let s = hit.sound there (inl refl) in
      let n = all_has HasId (db 4) s.0 numbers s.1 in
      let t = all_has (λ x. IsShown (serial_columns x)) (db 4) s.0 typed s.1 in
      let key : key_of r s.0 ≡ true = sym (conflict_is o behind id r s.0) ∙ s.2 in
      let same = and_parts (int_eq t.0.pair r.pair) (int_eq t.0.serial r.serial)
      (sym (key_typed r t.0) ∙ sym (ap (at_key r) t.1) ∙ key) in
      let e1 : column s.0 1 ≡ Int r.pair = ap (λ v. column v 0) t.1
      ∙ ap Int (same_int t.0.pair r.pair same.0) in
      let e2 : column s.0 2 ≡ Int r.serial = ap (λ v. column v 1) t.1
      ∙ ap Int (same_int t.0.serial r.serial same.1) in
      updated o apart limit (shown_serial r) id n.0 r there s.0 (ap rowid s.3 ∙ n.1) n.1 e1 e2 db
      one numbers s.1 key len h count

  judged : (check_tables : Option Refusal) → Judged task Abort (issue_upsert ∷ []) (new_row id r) db
      check_tables (Ok one) → Upserted db one.trees r
  judged None h = met h.0 h.1 h.2
  judged (Some why) h = absurd (let e = h in cc)

  pub tries : Tries task Abort (issue_upsert ∷ []) (new_row id r) db (Ok one)
      → Upserted db one.trees r
  tries (inl h) = absurd (let e = h.1 in cc)
  tries (inr h) = judged h.0 h.2

new_is : (top : ℤ) (rows : List Row) (r : SerialRow) → with_rowid (rowids_for serials_table top)
    rows (cast_row serials_table (mended Abort serials_table (Null ∷ shown_serial r)))
    ≡ new_row (next_rowid rows) r
new_is top rows r = rw (
  cast_null,
  cast_int,
  cast_int,
  cast_int,
  cast_int,
  cast_int,
  cast_int,
  cast_int,
)

does_issue : (o : Schema) → are_apart o.tables ≡ true → index_apart o.indexes ≡ true
    → (limit : Option ℕ) (mode : Mode) (db : Trees) (r : SerialRow) (text : List ℕ) (tally : Tally)
    (new : Database) → mode.keys ≡ Enforced → tally.rows ≡ Some 1
    → AllByRecursion HasId (db 4) → AllByRecursion (λ x. IsShown (serial_columns x)) (db 4)
    → length (filter (key_of r) (db 4)) ≤ 1
    → Does limit mode (shown_serial r) (record { schema = with_closed o; trees = db }) text None
    (InsertOr 3 Abort (Values issue_terms 8) (issue_upsert ∷ [])) (Ok (tally, new))
    → (new.schema ≡ with_closed o) × Upserted db new.trees r
does_issue o apart behind limit mode db r text tally new keys changed numbers typed len h =
    let done = went h in
    let out = same_value (went (went done.2).2).2 in
    let now : new ≡ record { schema = with_closed o; trees = done.0.trees } =
    ap (λ (p : Tally × Database). p.1) out in
    let given = went done.1 in
    let counter = went given.2 in
    let tried = went counter.2 in
    let counted = went tried.2 in
    let t : Task = record {
      limit = limit;
      keys = mode.keys;
      schema = with_closed o;
      table = serials_table;
      params = shown_serial r;
    } in
    let each = subst (λ k. TriesEach (record t { keys = k }) Abort (issue_upsert ∷ [])
    ((Null ∷ shown_serial r) ∷ []) (count_of counter.0) (nothing db) (Ok tried.0)) keys
    (subst (λ rows. TriesEach t Abort (issue_upsert ∷ []) rows (count_of counter.0) (nothing db)
    (Ok tried.0)) given.1.1 tried.1) in
    let one = went each in
    let last = same_value one.2 in
    let one_row : length one.0.rows ≡ 1 =
    let rows : Some (length done.0.rows) ≡ Some 1 =
    sym (ap (λ (p : Tally × Database). p.0.rows) out) ∙ changed in
    let same : length done.0.rows ≡ 1 = cc in
    sym (ap (λ (it : Written). length it.rows) (same_value counted.2)
    ∙ ap (λ (p : Written × ℤ). length p.0.rows) last) ∙ same in
    let met = tries o apart behind limit (next_rowid (db 4)) r db one.0 numbers typed len one_row
    (subst (λ n. Tries (task_of o limit (shown_serial r)) Abort (issue_upsert ∷ []) n db
    (Ok one.0)) (new_is (count_of counter.0) (db 4) r) one.1) in
    let whole : new.trees ≡ one.0.trees =
    ap (λ (d : Database). d.trees) now ∙ ap (λ (it : Written). it.trees) (same_value counted.2)
    ∙ same_value counted.1 ∙ ap (λ (p : Written × ℤ). p.0.trees) last in
    (ap (λ (d : Database). d.schema) now, subst (λ n. Upserted db n r) (sym whole) met)

issue_schema : (o : Schema) (limit : Option ℕ) (mode : Mode) (db : Trees) (r : SerialRow)
    (text : List ℕ) (tally : Tally) (new : Database)
    → Does limit mode (shown_serial r) (record { schema = with_closed o; trees = db }) text None
    (InsertOr 3 Abort (Values issue_terms 8) (issue_upsert ∷ [])) (Ok (tally, new))
    → new.schema ≡ with_closed o
issue_schema o limit mode db r text tally new h = let done = went h in
    ap (λ (p : Tally × Database). p.1.schema) (same_value (went (went done.2).2).2)

pub one_changed : (o : Option ℕ) → 1 ≡ unwrap_or o 0 → o ≡ Some 1
one_changed None h = absurd (omega (arith, h))
one_changed (Some n) h = ap Some (sym h)

-- The typed rows after the write.
typed_after : (serials : List SerialRow) (r : SerialRow) (old new : Trees) → Upserted old new r
    → IsPermutation (map shown_serial serials) (map serial_columns (old 4))
    → IsPermutation (map shown_serial (with_serial (Again r) serials)) (map serial_columns (new 4))
typed_after serials r old new it p =
    let left : filter (λ v. not (at_key r v)) (map shown_serial serials)
    ≡ map shown_serial (filter (λ x. not (is_at r.pair r.serial x)) serials) =
    filter-map (λ v. not (at_key r v)) shown_serial serials
    ∙ ap (map shown_serial) (filter_same (λ x. not (at_key r (shown_serial x)))
    (λ x. not (is_at r.pair r.serial x)) (λ x. ap not (key_typed r x)) serials) in
    let right : filter (λ v. not (at_key r v)) (map serial_columns (old 4)) ≡ map serial_columns
    (others r (old 4)) = filter-map (λ v. not (at_key r v)) serial_columns (old 4) in
    let stay : IsPermutation
    (map shown_serial (filter (λ x. not (is_at r.pair r.serial x)) serials))
    (map serial_columns (others r (old 4))) =
    rw (← left, ← right) (IsPermutation-filter (λ v. not (at_key r v)) _ _ p) in
    one_more shown_serial serial_columns (filter (λ x. not (is_at r.pair r.serial x)) serials) r
    (others r (old 4)) (new 4) it.row it.shows it.put stay

-- At most one row is of the identifier.
few_keyed : (serials : List SerialRow) (r : SerialRow) (rows : List Row)
    → IsPermutation (map shown_serial serials) (map serial_columns rows)
    → length (filter (is_at r.pair r.serial) serials) ≤ 1
    → length (filter (key_of r) rows) ≤ 1
few_keyed serials r rows p few =
    let left : filter (at_key r) (map shown_serial serials)
    ≡ map shown_serial (filter (is_at r.pair r.serial) serials) =
    filter-map (at_key r) shown_serial serials
    ∙ ap (map shown_serial) (filter_same (λ x. at_key r (shown_serial x))
    (is_at r.pair r.serial) (key_typed r) serials) in
    let right : filter (at_key r) (map serial_columns rows) ≡ map serial_columns
    (filter (key_of r) rows) = filter-map (at_key r) serial_columns rows in
    let moved : IsPermutation (map shown_serial (filter (is_at r.pair r.serial) serials))
    (map serial_columns (filter (key_of r) rows)) =
    rw (← left, ← right) (IsPermutation-filter (at_key r) _ _ p) in
    omega (
      arith,
      few,
      length_permutation _ _ moved,
      length-map (filter (is_at r.pair r.serial) serials) shown_serial,
      length-map (filter (key_of r) rows) serial_columns,
    )

shown_rows : (serials : List SerialRow) (rows : List Row) → IsPermutation (map shown_serial serials)
    (map serial_columns rows) → AllByRecursion (λ x. IsShown (serial_columns x)) rows
shown_rows serials rows p = all_unmap IsShown serial_columns rows
    (all_moved IsShown (map shown_serial serials) (map serial_columns rows) p
    (all-map IsShown shown_serial (λ s. (s, refl)) serials))

numbered_after : (r : SerialRow) (old new : Trees) → Upserted old new r
    → AllByRecursion HasIntegerRowid (old 4) → AllByRecursion HasIntegerRowid (new 4)
numbered_after r old new it all = all_moved HasIntegerRowid (it.row ∷ others r (old 4)) (new 4)
    it.put (
      it.is_numbered,
      all-filter HasIntegerRowid (λ x. not (at_key r (serial_columns x)))
          (old 4) all,
    )

pub issues : (old new : State) (r : SerialRow) (tables : Tables) → HasTables old.now tables
    → length (filter (is_at r.pair r.serial) tables.serials) ≤ 1
    → Executes upsert_serial_sql (shown_serial r) old new (Ok 1)
    → HasTables new.now (record tables { serials = with_serial (Again r) tables.serials })
issues old new r tables held few h =
    let params = shown_serial r in
    let has = held.schema.is in
    let o = others_after_closed old.now.schema in
    let command = InsertOr 3 Abort (Values issue_terms 8) (issue_upsert ∷ []) in
    let w = runs_as upsert_serial_sql params old new (with_closed o) has command
    (again_means o).is (again_means o).plain 1 h in
    let text = statement_of upsert_serial_sql (understood (with_closed o) upsert_serial_sql) in
    let does = subst (λ s. Does old.step_limit (mode_of old) params (record old.now { schema = s })
    text None command (Ok (w.tally, new.now))) has w.changed in
    let it : IsPermutation (map shown_serial tables.serials) (map serial_columns (old.now.trees 4))
    → Upserted old.now.trees new.now.trees r =
    λ p. (does_issue o (after_apart old.now.schema held.schema) held.schema.ledger.indexes
    old.step_limit (mode_of old) old.now.trees r text w.tally new.now refl
    (one_changed w.tally.rows w.counted) (all_ids (old.now.trees 4) held.numbered)
    (shown_rows tables.serials (old.now.trees 4) p) (few_keyed tables.serials r (old.now.trees 4) p
    few) does).1 in
    record {
      schema = is_as_it_was old.now.schema new.now.schema held.schema
          (issue_schema o old.step_limit (mode_of old) old.now.trees r text w.tally new.now does);
      heads = ∥∥₁_elim held.serials ∥∥₁_prop (λ p. rw ((it p).spared.head refl) held.heads);
      calls = ∥∥₁_elim held.serials ∥∥₁_prop (λ p. rw ((it p).spared.calls refl) held.calls);
      ranges = ∥∥₁_elim held.serials ∥∥₁_prop (λ p. rw ((it p).spared.ranges refl) held.ranges);
      serials = ∥∥₁_map held.serials (λ p. typed_after tables.serials r old.now.trees new.now.trees
          (it p) p);
      numbered = ∥∥₁_elim held.serials (AllByRecursion-prop HasIntegerRowid (λ x. Bool-set _ _)
          (new.now.trees 4)) (λ p. numbered_after r old.now.trees new.now.trees (it p)
          held.numbered);
      closed = ∥∥₁_elim held.serials ∥∥₁_prop (λ p. rw ((it p).spared.closed refl) held.closed);
    }
