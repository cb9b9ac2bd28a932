-- The tables after the UPDATE of a mark.
use Rattle.std.proofs.Common.{◌≡◌, arith, ℕ, ℤ, List, [], ◌∷◌, ◌++◌, drop, length, get_or, map}
use Rattle.std.proofs.Common.{filter, Bool, true, false, ◌&&◌, cond, Option, Some, None, Ok, refl}
use Rattle.std.proofs.Common.{sym, ap, subst, ◌∙◌, int_eq, is_eq}
use Rattle.std.proofs.Math.Logic.{∥∥₁_map, ∥∥₁_elim, ∥∥₁_prop}
use mathlib.Core.Bool.{Bool-set}
use Rattle.sqlite_trees.specs.Props.{AllByRecursion-prop}
use Rattle.std.specs.List.{AllByRecursion}
use Rattle.std.specs.List.Sorted.{IsPermutation}
use Rattle.std.proofs.lemmas.List.Sorted.{IsPermutation-map, IsPermutation-trans}
use Rattle.std.proofs.lemmas.List.Sorted.{IsPermutation-filter_both, length_permutation}
use Rattle.sqlite_value.specs.declared.keys.Collation.TheVariants.{Binary}
use Rattle.sqlite_value.specs.declared.value.Value.TheVariants.{Null, Int}
use Rattle.sqlite_value.specs.Order.{Row, column, value_cmp}
use Rattle.sqlite_value.proofs.OrderLemmas.{value_cmp-Int}
use Rattle.sqlite_trees.specs.Tree.{Trees, has_rowid}
use Rattle.sqlite_sql.specs.declared.ops.BinaryOp.TheVariants.{Compare}
use Rattle.sqlite_sql.specs.declared.ops.CompareOp.TheVariants.{Eq}
use Rattle.sqlite_sql.specs.Ops.{binary, is_true}
use Rattle.sqlite_sql.specs.Query.{IsAnswer}
use Rattle.sqlite_sql.specs.Program.{overlay}
use Rattle.sqlite_schema.specs.declared.command.Command.TheVariants.{Update}
use Rattle.sqlite_schema.specs.declared.schema.Keys.TheVariants.{Enforced}
use Rattle.sqlite_schema.specs.declared.schema.Schema.{Schema}
use Rattle.sqlite_rules.specs.declared.error.Rowids.TheVariants.{Given}
use Rattle.sqlite_rules.specs.Cast.{cast_row}
use Rattle.sqlite_rules.specs.Calls.{ids_of}
use Rattle.sqlite_rules.specs.Edit.{taken_by, edit_of, without_all}
use Rattle.sqlite_rules.specs.Action.{Writes as sqlWrites}
use Rattle.sqlite_keyed.proofs.ListLemmas.{filter-map, all_unmap, all-map, all-filter}
use Rattle.sqlite_typed.proofs.TestLemmas.{at_ints, last_term}
use Rattle.sqlite.specs.Effect.{Database}
use Rattle.sqlite.specs.Does.{Tally, Does}
use Rattle.sqlite.specs.Rows.{Written, Task, Updates}
use Rattle.sqlite.specs.Listing.{understood}
use Rattle.sqlite.specs.State.{State, mode_of, Executes}
use Rattle.sqlite.proofs.Callers.{statement_of, runs_as, one_permutation}
use Rattle.s10_rows.specs.declared.range_row.RangeRow.{RangeRow}
use Rattle.s10_schema.specs.Schema.{with_closed, closed_first, others_after_closed, are_apart}
use Rattle.s10_schema.specs.Schema.{ranges_table}
use Rattle.s10_rows.specs.Tables.{Tables}
use Rattle.s10_rows.specs.RowWrites.{marked}
use Rattle.s10_rows.proofs.Replaced.{map_twice, same_images, rest_same}
use Rattle.s10_statements.specs.Shown.{HasTables, shown_range, range_columns, HasIntegerRowid}
use Rattle.s10_statements.specs.Statements.{update_mark_sql}
use Rattle.s10_statements.proofs.WriteTexts.{mark_query, mark_means}
use Rattle.s10_statements.proofs.Apart.{no_works, not_ranges, is_as_it_was, after_apart}
use Rattle.s10_statements.proofs.ReadLemmas.{kept_are, rows_are}
use Rattle.s10_statements.proofs.PutLemmas.{cast_int, cast_null, went, same_value, Spares, put_one}
use Rattle.s10_statements.proofs.InsertLemmas.{stored_range}
use Rattle.s10_statements.proofs.IssueLemmas.{length_numbered, one_changed}
use Rattle.s10_statements.proofs.GoneLemmas.{all_moved, passing, same_int, has_id, stays}
use Rattle.std.proofs.lemmas.List.{length-map}

-- The rows that the statement finds, as it writes them back after their rowids.
abbrev update_columns : ℤ → Row → Row
update_columns mark x = column x 0 ∷ column x 0 ∷ Null ∷ column x 2 ∷ column x 3 ∷ column x 4
    ∷ column x 5 ∷ Int mark ∷ []

abbrev no_key : Row → Row
no_key v = []

abbrev same_num : ℤ → Row → Bool
same_num num v = is_true (binary (Compare Eq Binary) (column v 0) (Int num)) && true

abbrev params_of : ℤ → ℤ → Row
params_of num mark = Int num ∷ Int mark ∷ []

-- A row of ranges, as SQL shows it.
abbrev IsRange : Row → Type 0
IsRange v = (s : RangeRow) × (v ≡ shown_range s)

range_ids : (ranges : List RangeRow) (rows : List Row) → IsPermutation (map shown_range ranges)
    (map range_columns rows) → AllByRecursion (λ x. IsRange (range_columns x)) rows
range_ids ranges rows p = all_unmap IsRange range_columns rows
    (all_moved IsRange (map shown_range ranges) (map range_columns rows) p
    (all-map IsRange shown_range (λ s. (s, refl)) ranges))

only_one : {X : Type 0} (xs : List X) → length xs ≡ 1 → (x : X) × (xs ≡ x ∷ [])
only_one [] one = absurd (omega (arith, one))
only_one (x ∷ []) one = (x, refl)
only_one (x ∷ y ∷ more) one = absurd (omega (arith, one))

filter_typed : {X : Type 0} (P : X → Type 0) (p q : X → Bool) (xs : List X)
    → ((x : X) → P x → p x ≡ q x) → AllByRecursion P xs → filter p xs ≡ filter q xs
filter_typed P p q [] same all = refl
filter_typed P p q (x ∷ xs) same all = rw (same x all.0, filter_typed P p q xs same all.1) refl

cast_same : (r : RangeRow) → cast_row ranges_table (stored_range r) ≡ stored_range r
cast_same r = rw (cast_int, cast_null, cast_int, cast_int, cast_int, cast_int, cast_int)

-- The row with the number has the mark, and everything else is as it was.
record Marked (old new : Trees) (num mark : ℤ) : Type 0 where
  pub there : Row
  pub single : filter (has_rowid num) (old 3) ≡ there ∷ []
  pub put : IsPermutation ((column there 0 ∷ Null ∷ column there 2 ∷ column there 3 ∷ column there 4
      ∷ column there 5 ∷ Int mark ∷ []) ∷ filter (stays num) (old 3)) (new 3)
  pub others : Spares 3 old new

module _ (o : Schema) (apart : are_apart o.tables ≡ true) (limit : Option ℕ) (num mark : ℤ)
    (db : Trees) (typed : AllByRecursion (λ x. IsRange (range_columns x)) (db 3)) where
  abbrev params : Row
  params = params_of num mark

  abbrev task : Task
  task = record {
    limit = limit;
    keys = Enforced;
    schema = with_closed o;
    table = ranges_table;
    params = params;
  }

  test_is : (x : Row) → IsRange (range_columns x) → same_num num (update_columns mark x)
      ≡ has_rowid num x
  test_is x t =
      let e : column x 0 ≡ Int t.0.num = ap (λ v. column v 0) t.1 in
      rw e (last_term (at_ints false Eq t.0.num num) ∙ sym (ap is_eq (value_cmp-Int t.0.num num)))

  matched : filter (same_num num) (map (update_columns mark) (db 3)) ≡ map (update_columns mark)
      (filter (has_rowid num) (db 3))
  matched =
      filter-map (same_num num) (update_columns mark) (db 3)
      ∙ ap (map (update_columns mark)) (filter_typed (λ x. IsRange (range_columns x))
      (λ x. same_num num (update_columns mark x)) (has_rowid num) (db 3) test_is typed)

  answer_rows : (rows : List Row) → IsAnswer mark_query (overlay db []) params rows
      → IsPermutation (map (update_columns mark) (filter (has_rowid num) (db 3))) rows
  answer_rows rows a =
      subst (λ l. IsPermutation l rows) matched
      (rows_are params mark_query (db 3) (update_columns mark) no_key (same_num num) (λ x. refl)
      (λ x. refl) a.kept a.ordered rows
      (kept_are params mark_query (db 3) (update_columns mark) no_key (same_num num) (λ x. refl)
      (λ x. refl) a.staged a.kept a.grouped a.distinct) a.same a.shown)

  -- One row was found, and it is written back with the mark.
  updated : (one : Written) → Updates task (record { lets = []; body = mark_query }) params db
      (Ok one) → length one.rows ≡ 1 → Marked db one.trees num mark
  updated one h count =
      let w = went h in
      let v = went w.2 in
      let same_one : one ≡ record {
        trees = v.0;
        rows = (edit_of db ranges_table (ids_of w.0) Given 1 w.0).news;
        last = None;
      } = same_value
      v.2 in
      let counted : length w.0 ≡ 1 =
      sym (length-map w.0 (λ s. cast_row ranges_table (drop 1 s)))
      ∙ sym (length_numbered (without_all (db 3) (ids_of w.0))
      (map (λ s. cast_row ranges_table (drop 1 s)) w.0))
      ∙ ap (λ (it : Written). length it.rows) (sym same_one) ∙ count in
      let found = answer_rows w.0 (w.1.answer Null) in
      let single = only_one (filter (has_rowid num) (db 3))
      (omega (
        arith,
        length-map (filter (has_rowid num) (db 3)) (update_columns mark),
        length_permutation (map (update_columns mark) (filter (has_rowid num) (db 3))) w.0 found,
        counted,
      )) in
      let there : Row = single.0 in
      let t : IsRange (range_columns there) =
      (subst (AllByRecursion (λ x. IsRange (range_columns x))) single.1
      (all-filter (λ x. IsRange (range_columns x)) (has_rowid num) (db 3) typed)).0 in
      let hit : has_rowid num there ≡ true =
      (subst (AllByRecursion (λ x. has_rowid num x ≡ true)) single.1
      (passing (has_rowid num) (db 3))).0 in
      let e0 : column there 0 ≡ Int num =
      ap (λ v. column v 0) t.1
      ∙ ap Int (same_int t.0.num num (sym (has_id num t.0.num there (ap (λ v. column v 0) t.1))
      ∙ hit)) in
      let e2 : column there 2 ≡ Int t.0.holder = ap (λ v. column v 1) t.1 in
      let e3 : column there 3 ≡ Int t.0.pair = ap (λ v. column v 2) t.1 in
      let e4 : column there 4 ≡ Int t.0.low = ap (λ v. column v 3) t.1 in
      let e5 : column there 5 ≡ Int t.0.high = ap (λ v. column v 4) t.1 in
      let r : RangeRow = record {
        num = num;
        holder = t.0.holder;
        pair = t.0.pair;
        low = t.0.low;
        high = t.0.high;
        mark = mark;
      } in
      let full : Row = Int num ∷ stored_range r in
      let is_full : update_columns mark there ≡ full = rw (e0, e2, e3, e4, e5) refl in
      let rows_is : w.0 ≡ full ∷ [] =
      one_permutation full w.0
      (subst (λ l. IsPermutation l w.0) (ap (map (update_columns mark)) single.1
      ∙ ap (λ x. x ∷ []) is_full) found) in
      let wrote = subst (λ rows. sqlWrites (with_closed o) Enforced db
      (edit_of db ranges_table (ids_of rows) Given 1 rows) (Ok v.0)) rows_is v.1 in
      let edit = edit_of db ranges_table (ids_of (full ∷ [])) Given 1 (full ∷ []) in
      let it = put_one o Enforced db v.0 edit (stored_range r) (no_works 3 not_ranges
      (closed_first o) apart Enforced 0 (taken_by db edit) edit.news) (rw (cast_same r)) wrote in
      let back : stored_range r ≡ column there 0 ∷ Null ∷ column there 2 ∷ column there 3
      ∷ column there 4 ∷ column there 5 ∷ Int mark ∷ [] = rw (e0, e2, e3, e4, e5) refl in
      subst (λ (n : Trees). Marked db n num mark) (sym (ap (λ (it : Written). it.trees) same_one))
      (record {
        there = there;
        single = single.1;
        put = subst (λ x. IsPermutation (x ∷ filter (stays num) (db 3)) (v.0 3)) back it.0;
        others = it.1;
      })

-- The typed rows after the write.

abbrev with_mark : ℤ → Row → Row
with_mark mark v = column v 0 ∷ column v 1 ∷ column v 2 ∷ column v 3 ∷ column v 4 ∷ Int mark ∷ []

abbrev marked_row : ℤ → ℤ → Row → Row
marked_row num mark v = cond (is_eq (value_cmp (column v 0) (Int num))) (with_mark mark v) v

shown_marked : (num mark : ℤ) (r : RangeRow) → marked_row num mark (shown_range r)
    ≡ shown_range (marked num mark r)
shown_marked num mark r = ap (λ b. cond b (with_mark mark (shown_range r)) (shown_range r))
    (ap is_eq (value_cmp-Int r.num num)) ∙ by_case (int_eq r.num num)
  where
    by_case : (b : Bool) → cond b (with_mark mark (shown_range r)) (shown_range r)
        ≡ shown_range (cond b (record r { mark = mark }) r)
    by_case true = refl
    by_case false = refl

typed_after : (ranges : List RangeRow) (num mark : ℤ) (old new : Trees) → Marked old new num mark
    → IsPermutation (map shown_range ranges) (map range_columns (old 3))
    → IsPermutation (map shown_range (map (marked num mark) ranges)) (map range_columns (new 3))
typed_after ranges num mark old new it p =
    let f : Row → Row = λ x. marked_row num mark (range_columns x) in
    let others : List Row = filter (stays num) (old 3) in
    let row : Row = column it.there 0 ∷ Null ∷ column it.there 2 ∷ column it.there 3
    ∷ column it.there 4 ∷ column it.there 5 ∷ Int mark ∷ [] in
    let left : map shown_range (map (marked num mark) ranges) ≡ map (marked_row num mark)
    (map shown_range ranges) =
    map_twice shown_range (marked num mark) ranges
    ∙ sym (same_images (λ r. marked_row num mark (shown_range r))
    (λ r. shown_range (marked num mark r)) (shown_marked num mark) ranges)
    ∙ sym (map_twice (marked_row num mark) shown_range ranges) in
    let moved : IsPermutation (map (marked_row num mark) (map shown_range ranges))
    (map (marked_row num mark) (map range_columns (old 3))) =
    IsPermutation-map (marked_row num mark) _ _ p in
    let parted : IsPermutation (old 3) (it.there ∷ others) =
    subst (λ l. IsPermutation (old 3) (l ++ others)) it.single
    (IsPermutation-filter_both (has_rowid num) (stays num) (λ y. refl) (old 3)) in
    let hit : has_rowid num it.there ≡ true =
    (subst (AllByRecursion (λ x. has_rowid num x ≡ true)) it.single
    (passing (has_rowid num) (old 3))).0 in
    let here : f it.there ≡ range_columns row =
    ap (λ b. cond b (with_mark mark (range_columns it.there)) (range_columns it.there)) hit in
    let rest : map f others ≡ map range_columns others =
    rest_same (has_rowid num) f range_columns (old 3)
    (λ k d lt no'. ap (λ b. cond b (with_mark mark (range_columns (get_or (old 3) k d)))
    (range_columns (get_or (old 3) k d))) no') in
    let images : IsPermutation (map f (old 3)) (map range_columns (row ∷ others)) =
    subst (IsPermutation (map f (old 3))) (ap (λ x. x ∷ map f others) here
    ∙ ap (λ l. range_columns row ∷ l) rest) (IsPermutation-map f (old 3) (it.there ∷ others)
    parted) in
    subst (λ l. IsPermutation l (map range_columns (new 3))) (sym left)
    (IsPermutation-trans _ _ _
    (subst (IsPermutation (map (marked_row num mark) (map shown_range ranges)))
    (map_twice (marked_row num mark) range_columns (old 3)) moved)
    (IsPermutation-trans _ _ _ images (IsPermutation-map range_columns (row ∷ others) (new 3)
    it.put)))

pub marks : (old new : State) (num mark : ℤ) (tables : Tables) → HasTables old.now tables
    → Executes update_mark_sql (params_of num mark) old new (Ok 1)
    → HasTables new.now (record tables { ranges = map (marked num mark) tables.ranges })
marks old new num mark tables held h =
    let params = params_of num mark in
    let has = held.schema.is in
    let o = others_after_closed old.now.schema in
    let command = Update 2 (record { lets = []; body = mark_query }) in
    let w = runs_as update_mark_sql params old new (with_closed o) has command
    (mark_means o).is (mark_means o).plain 1 h in
    let text = statement_of update_mark_sql (understood (with_closed o) update_mark_sql) in
    let done = went
    (subst (λ s. Does old.step_limit (mode_of old) params (record old.now { schema = s }) text
    None command (Ok (w.tally, new.now))) has w.changed) in
    let out = same_value (went (went done.2).2).2 in
    let now = ap (λ (p : Tally × Database). p.1) out in
    let rows : Some (length done.0.rows) ≡ Some 1 =
    sym (ap (λ (p : Tally × Database). p.0.rows) out) ∙ one_changed w.tally.rows w.counted in
    let one_row : length done.0.rows ≡ 1 = cc in
    let it : IsPermutation (map shown_range tables.ranges) (map range_columns (old.now.trees 3))
    → Marked old.now.trees new.now.trees num mark =
    λ p. subst (λ (n : Trees). Marked old.now.trees n num mark)
    (sym (ap (λ (d : Database). d.trees) now))
    (updated o (after_apart old.now.schema held.schema) old.step_limit num mark old.now.trees
    (range_ids tables.ranges (old.now.trees 3) p) done.0 done.1 one_row) in
    record {
      schema = is_as_it_was old.now.schema new.now.schema held.schema
          (ap (λ (d : Database). d.schema) now);
      heads = ∥∥₁_elim held.ranges ∥∥₁_prop (λ p. rw ((it p).others.head refl) held.heads);
      calls = ∥∥₁_elim held.ranges ∥∥₁_prop (λ p. rw ((it p).others.calls refl) held.calls);
      ranges = ∥∥₁_map held.ranges (λ p. typed_after tables.ranges num mark old.now.trees
          new.now.trees (it p) p);
      serials = ∥∥₁_elim held.ranges ∥∥₁_prop (λ p. rw ((it p).others.serials refl) held.serials);
      numbered = ∥∥₁_elim held.ranges (AllByRecursion-prop HasIntegerRowid (λ x. Bool-set _ _)
          (new.now.trees 4)) (λ p. rw ((it p).others.serials refl) held.numbered);
      closed = ∥∥₁_elim held.ranges ∥∥₁_prop (λ p. rw ((it p).others.closed refl) held.closed);
    }
