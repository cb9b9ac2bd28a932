-- What the texts of the reads mean under the schema.
use Rattle.std.proofs.Common.{◌≡◌, ℕ, pos, negsuc, List, [], ◌∷◌, ◌++◌, map, codes, false, None, refl, sym}
use Rattle.std.proofs.Common.{subst}
use Rattle.sqlite_value.specs.declared.keys.Collation.TheVariants.{Binary}
use Rattle.sqlite_value.specs.declared.value.Value.TheVariants.{Int}
use Rattle.sqlite_value.specs.Keys.{ascending}
use Rattle.sqlite_sql.specs.declared.ops.BinaryOp.TheVariants.{Compare}
use Rattle.sqlite_sql.specs.declared.ops.CompareOp.TheVariants.{Eq, Ge, Le}
use Rattle.sqlite_sql.specs.Term.{Term, lit, col, op2}
use Rattle.sqlite_sql.specs.Query.{Query, inner, end}
use Rattle.sqlite_schema.specs.declared.command.Command.TheVariants.{Select}
use Rattle.sqlite_tied.specs.Compute.{everything}
use Rattle.sqlite_schema.specs.declared.schema.Schema.{Schema}
use Rattle.sqlite_schema.specs.declared.schema.Table.{Table}
use Rattle.sqlite.specs.Listing.{understood, reads_listing}
use Rattle.sqlite.specs.Given.{IsPlain}
use Rattle.sqlite.proofs.Callers.{command_of}
use Rattle.s10_schema.specs.Schema.{IsClosedSchema, with_others, with_closed, others_after_closed}
use Rattle.s10_schema.specs.Schema.{head_table, calls_table, ranges_table, serials_table}
use Rattle.s10_schema.specs.Schema.{closed_table}
use Rattle.s10_statements.specs.Statements.{select_head_sql, select_calls_sql, select_ranges_sql}
use Rattle.s10_statements.specs.Statements.{select_serials_within_sql, select_serials_sql}
use Rattle.s10_statements.specs.Statements.{select_closed_sql}
use Rattle.s10_schema.specs.Columns.{names_in, positions_in}

-- A read of one table.
abbrev pub read_of : ℕ → List Term → List Term → List Term → Query
read_of tree filter project order = record {
  from = inner tree end;
  filter = filter;
  group = None;
  project = project;
  distinct = false;
  collations = [];
  order = map (λ term. (term, ascending Binary)) order;
  limit = lit (Int (negsuc 0));
  offset = lit (Int (pos 0));
}

-- Under the schema the text is this query, and it reads no declarations.
pub record IsQuery (schema : Schema) (sql : List ℕ) (query : Query) (names : List (List ℕ)) : Type 0
  where
    pub is : command_of (understood schema sql) ≡ Select (record { lets = []; body = query }) names
    pub plain : IsPlain (understood schema sql)
    pub unlisted : reads_listing schema sql ≡ false

abbrev pub by_one : List Term
by_one = col 1 0 ∷ []

-- The columns of a table.
abbrev pub terms_in : Table → List Term
terms_in t = map (col 1) (positions_in t)

abbrev pub equals : ℕ → ℕ → Term
equals place at = op2 (Compare Eq Binary) (col 1 place) (col 0 at)

abbrev pub from_to : ℕ → ℕ → ℕ → List Term
from_to place low high = op2 (Compare Ge Binary) (col 1 place) (col 0 low) ∷ op2 (Compare Le Binary)
    (col 1 place) (col 0 high) ∷ []

abbrev pub head_query : Query
head_query = read_of 0 [] (terms_in head_table) by_one

pub head_read : (o : Schema) → IsQuery (with_others o) select_head_sql head_query (names_in head_table)
unfolding understood everything
head_read o = record { is = refl; plain = (refl, refl); unlisted = refl }

abbrev pub calls_query : Query
calls_query = read_of 1 [] (terms_in calls_table) by_one

pub calls_read : (o : Schema) → IsQuery (with_others o) select_calls_sql calls_query (names_in
    calls_table)
unfolding understood everything
calls_read o = record { is = refl; plain = (refl, refl); unlisted = refl }

abbrev pub ranges_query : Query
ranges_query = read_of 3 [] (terms_in ranges_table) by_one

pub ranges_read : (o : Schema) → IsQuery (with_others o) select_ranges_sql ranges_query (names_in
    ranges_table)
unfolding understood everything
ranges_read o = record { is = refl; plain = (refl, refl); unlisted = refl }

abbrev pub by_pair : List Term
by_pair = col 1 1 ∷ col 1 2 ∷ []

abbrev pub within_tests : List Term
within_tests = equals 1 0 ∷ from_to 2 1 2

abbrev pub within_query : Query
within_query = read_of 4 within_tests (terms_in serials_table) by_pair

pub within_read : (o : Schema) → IsQuery (with_others o) select_serials_within_sql within_query
    (names_in serials_table)
unfolding understood everything
within_read o = record { is = refl; plain = (refl, refl); unlisted = refl }

abbrev pub wide_terms : List Term
wide_terms = terms_in serials_table ++ col 1 0 ∷ []

abbrev pub serials_query : Query
serials_query = read_of 4 [] wide_terms by_pair

pub serials_read : (o : Schema) → IsQuery (with_others o) select_serials_sql serials_query (names_in
    serials_table ++ codes "rowid" ∷ [])
unfolding understood everything
serials_read o = record { is = refl; plain = (refl, refl); unlisted = refl }

abbrev pub closed_query : Query
closed_query = read_of 6 [] (terms_in closed_table) by_one

pub closed_read : (o : Schema) → IsQuery (with_closed o) select_closed_sql closed_query (names_in
    closed_table)
unfolding understood everything
closed_read o = record { is = refl; plain = (refl, refl); unlisted = refl }

pub known_closed : (s : Schema) → IsClosedSchema s → IsPlain (understood s select_closed_sql)
known_closed s has = subst (λ (x : Schema). IsPlain (understood x select_closed_sql)) (sym has.is)
    (closed_read (others_after_closed s)).plain
