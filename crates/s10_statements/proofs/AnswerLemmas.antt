-- What the reads of a ledger's tables show.
use Rattle.std.proofs.Common.{◌≡◌, ℕ, ℤ, List, [], ◌∷◌, ◌&&◌, Bool, true, false, map, filter}
use Rattle.std.proofs.Common.{refl, ap, subst, ◌∙◌, int_eq, int_le}
use Rattle.std.specs.List.{list_all}
use Rattle.std.specs.List.Sorted.{IsPermutation}
use Rattle.sqlite_value.specs.declared.keys.Collation.TheVariants.{Binary}
use Rattle.sqlite_value.specs.declared.value.Value.TheVariants.{Null, Int}
use Rattle.sqlite_value.specs.Order.{Row, column}
use Rattle.sqlite_sql.specs.declared.ops.BinaryOp.TheVariants.{Compare}
use Rattle.sqlite_sql.specs.declared.ops.CompareOp.TheVariants.{Eq, Ge, Le}
use Rattle.sqlite_sql.specs.Ops.{binary, is_true}
use Rattle.sqlite_sql.specs.Term.{Term, holds}
use Rattle.sqlite_sql.specs.Query.{Query, IsAnswer, output}
use Rattle.sqlite_sql.specs.Program.{overlay}
use Rattle.sqlite_typed.proofs.TestLemmas.{at_ints, then_term, last_term}
use Rattle.sqlite_schema.specs.declared.schema.Schema.{Schema}
use Rattle.sqlite.specs.State.{State, Shown}
use Rattle.sqlite.proofs.Callers.{reads_as}
use Rattle.s10_rows.specs.declared.serial_row.SerialRow.{SerialRow}
use Rattle.s10_schema.specs.Schema.{IsLedgerSchema, IsClosedSchema}
use Rattle.s10_schema.specs.Schema.{others_in, others_after_closed}
use Rattle.s10_schema.specs.Schema.{head_table, calls_table, ranges_table, serials_table, closed_table}
use Rattle.s10_statements.specs.Shown.{shown_serial}
use Rattle.s10_statements.specs.Shown.{head_columns, call_columns, range_columns, serial_columns}
use Rattle.s10_statements.specs.Shown.{closed_columns, serial_from}
use Rattle.s10_rows.specs.Selected.{is_within}
use Rattle.s10_statements.specs.Statements.{select_head_sql, select_calls_sql, select_ranges_sql}
use Rattle.s10_statements.specs.Statements.{select_serials_within_sql, select_serials_sql}
use Rattle.s10_statements.specs.Statements.{select_closed_sql}
use Rattle.s10_statements.proofs.Texts.{read_of, IsQuery, by_one, by_pair, head_read, calls_query}
use Rattle.s10_statements.proofs.Texts.{calls_read, ranges_query, ranges_read, within_tests}
use Rattle.s10_statements.proofs.Texts.{within_read, wide_terms, serials_query, serials_read}
use Rattle.s10_statements.proofs.Texts.{closed_query, closed_read, terms_in}
use Rattle.s10_statements.proofs.ReadLemmas.{kept_are, rows_are, selected}

abbrev pub wide_columns : Row → Row
wide_columns r = column r 1 ∷ column r 2 ∷ column r 3 ∷ column r 4 ∷ column r 5 ∷ column r 6
    ∷ column r 7 ∷ column r 0 ∷ []

-- The keys of ORDER BY.

abbrev pub first_key : Row → Row
first_key v = column v 0 ∷ []

abbrev pub pair_key : Row → Row
pair_key v = column v 0 ∷ column v 1 ∷ []

-- The tests of WHERE.

abbrev pub always : Row → Bool
always v = true

abbrev pub within_test : Row → Row → Bool
within_test params v =
    is_true (binary (Compare Eq Binary) (column v 0) (column params 0))
    && (is_true (binary (Compare Ge Binary) (column v 1) (column params 1))
    && (is_true (binary (Compare Le Binary) (column v 1) (column params 2)) && true))

all_pass : (vs : List Row) → filter always vs ≡ vs
all_pass [] = refl
all_pass (v ∷ vs) = ap (λ l. v ∷ l) (all_pass vs)

-- A read of one table. The columns shown are these of a stored row, their first ones are the key,
-- and the test is one of them.
module _ {schema : Schema} {sql : List ℕ} {names : List (List ℕ)} (tree : ℕ)
    (tests project order : List Term) (read : IsQuery schema sql (read_of tree tests project order)
    names) (params : Row) (old new : State) (rows : List Row) (has : old.now.schema ≡ schema)
    (h : Shown sql params old new rows) where
  abbrev query : Query
  query = read_of tree tests project order

  -- The stored rows of the table.
  abbrev raw : List Row
  raw = overlay old.now.trees [] tree

  pub answers : IsAnswer query (overlay old.now.trees []) params rows
  answers = (reads_as sql params old new schema has _ read.is read.plain read.unlisted rows
      h).answer
      Null

  module _ (columns key : Row → Row) (test : Row → Bool)
      (outs : (r : Row) → output query (params ∷ r ∷ []) ≡ (key (columns r), columns r))
      (pass : (r : Row) → list_all (holds (params ∷ r ∷ [])) tests ≡ test (columns r)) where
    pub shows_passing : IsPermutation (filter test (map columns raw)) rows
    shows_passing =
        let a = answers in
        rows_are params query raw columns key test outs pass a.kept a.ordered rows
        (kept_are params query raw columns key test outs pass a.staged a.kept
        a.grouped a.distinct) a.same a.shown

module _ (params : Row) (old new : State) (rows : List Row)
    (has : IsLedgerSchema old.now.schema) where
  abbrev o : Schema
  o = others_in old.now.schema

  pub head_shows : Shown select_head_sql params old new rows
      → IsPermutation (map head_columns (old.now.trees 0)) rows
  head_shows h = subst (λ vs. IsPermutation vs rows) (all_pass (map head_columns (old.now.trees 0)))
      (shows_passing 0 [] (terms_in head_table) by_one (head_read o) params old new rows has.is h head_columns
      first_key
      always (λ r. refl) (λ r. refl))

  pub calls_answers : Shown select_calls_sql params old new rows
      → IsAnswer calls_query (overlay old.now.trees []) params rows
  calls_answers h = answers 1 [] (terms_in calls_table) by_one (calls_read o) params old new rows has.is h

  pub calls_shows : Shown select_calls_sql params old new rows
      → IsPermutation (map call_columns (old.now.trees 1)) rows
  calls_shows h = subst (λ vs. IsPermutation vs rows) (all_pass (map call_columns (old.now.trees
      1)))
      (shows_passing 1 [] (terms_in calls_table) by_one (calls_read o) params old new rows has.is h
      call_columns first_key
      always (λ r. refl) (λ r. refl))

  pub ranges_answers : Shown select_ranges_sql params old new rows
      → IsAnswer ranges_query (overlay old.now.trees []) params rows
  ranges_answers h = answers 3 [] (terms_in ranges_table) by_one (ranges_read o) params old new rows has.is h

  pub ranges_shows : Shown select_ranges_sql params old new rows
      → IsPermutation (map range_columns (old.now.trees 3)) rows
  ranges_shows h = subst (λ vs. IsPermutation vs rows) (all_pass (map range_columns (old.now.trees
      3)))
      (shows_passing 3 [] (terms_in ranges_table) by_one (ranges_read o) params old new rows has.is h
      range_columns first_key
      always (λ r. refl) (λ r. refl))

  pub within_shows : Shown select_serials_within_sql params old new rows
      → IsPermutation (filter (within_test params) (map serial_columns (old.now.trees 4))) rows
  within_shows h = shows_passing 4 within_tests (terms_in serials_table) by_pair (within_read o) params old new
      rows has.is h serial_columns pair_key (within_test params) (λ r. refl) (λ r. refl)

  pub serials_answers : Shown select_serials_sql params old new rows
      → IsAnswer serials_query (overlay old.now.trees []) params rows
  serials_answers h = answers 4 [] wide_terms by_pair (serials_read o) params old new rows has.is h

  pub serials_shows : Shown select_serials_sql params old new rows
      → IsPermutation (map wide_columns (old.now.trees 4)) rows
  serials_shows h = subst (λ vs. IsPermutation vs rows) (all_pass (map wide_columns (old.now.trees
      4)))
      (shows_passing 4 [] wide_terms by_pair (serials_read o) params old new rows has.is h
      wide_columns pair_key
      always (λ r. refl) (λ r. refl))

module _ (params : Row) (old new : State) (rows : List Row)
    (has : IsClosedSchema old.now.schema) where
  abbrev after : Schema
  after = others_after_closed old.now.schema

  pub closed_answers : Shown select_closed_sql params old new rows
      → IsAnswer closed_query (overlay old.now.trees []) params rows
  closed_answers h = answers 6 [] (terms_in closed_table) by_one (closed_read after) params old new rows has.is h

  pub closed_shows : Shown select_closed_sql params old new rows
      → IsPermutation (map closed_columns (old.now.trees 6)) rows
  closed_shows h = subst (λ vs. IsPermutation vs rows) (all_pass (map closed_columns (old.now.trees
      6)))
      (shows_passing 6 [] (terms_in closed_table) by_one (closed_read after) params old new rows has.is h
      closed_columns first_key
      always (λ r. refl) (λ r. refl))

-- Typed rows.

regrouped : (a b c : Bool) → (a && (b && c)) ≡ (a && b && c)
regrouped true b c = refl
regrouped false b c = refl

module _ (pair low high : ℤ) where
  abbrev pub within_params : Row
  within_params = Int pair ∷ Int low ∷ Int high ∷ []

  pub within_selects : (serials found : List SerialRow) (vs : List Row)
      → IsPermutation (map shown_serial serials) vs
      → IsPermutation (filter (within_test within_params) vs) (map shown_serial found)
      → IsPermutation (filter (is_within pair low high) serials) found
  within_selects serials found vs has got =
      selected shown_serial serial_from (λ r. refl) (within_test within_params)
      (is_within pair low high)
      (λ r. then_term (at_ints false Eq r.pair pair) (then_term (at_ints false Ge r.serial low)
      (last_term (at_ints false Le r.serial high))) ∙ regrouped (int_eq r.pair pair)
      (int_le low r.serial) (int_le r.serial high)) serials found vs has got
