-- What the texts of the writes mean under the schema.
use Rattle.std.proofs.Common.{◌≡◌, ℕ, pos, negsuc, List, [], ◌∷◌, map, length, ◌-◌, false, Option, Some, None}
use Rattle.std.proofs.Common.{refl}
use Rattle.std.specs.List.{range_with_len}
use Rattle.sqlite_value.specs.declared.keys.Collation.TheVariants.{Binary}
use Rattle.sqlite_value.specs.declared.value.Value.TheVariants.{Null, Int}
use Rattle.sqlite_sql.specs.declared.ops.BinaryOp.TheVariants.{Compare}
use Rattle.sqlite_sql.specs.declared.ops.CompareOp.TheVariants.{Eq}
use Rattle.sqlite_sql.specs.Term.{Term, lit, col, op2}
use Rattle.sqlite_sql.specs.Query.{Query, inner, end}
use Rattle.sqlite_schema.specs.declared.command.Source.TheVariants.{Values}
use Rattle.sqlite_schema.specs.declared.command.Conflict.TheVariants.{Abort}
use Rattle.sqlite_schema.specs.declared.command.Upsert.{Upsert}
use Rattle.sqlite_schema.specs.declared.command.Command.{Command}
use Rattle.sqlite_schema.specs.declared.command.Command.TheVariants.{Insert, InsertOr, Update}
use Rattle.sqlite_tied.specs.Compute.{everything}
use Rattle.sqlite_schema.specs.declared.schema.Schema.{Schema}
use Rattle.sqlite_schema.specs.declared.schema.Table.{Table}
use Rattle.sqlite.specs.Listing.{understood}
use Rattle.sqlite.specs.Given.{IsPlain}
use Rattle.sqlite.proofs.Callers.{command_of}
use Rattle.s10_schema.specs.Schema.{calls_table, ranges_table, serials_table, closed_table}
use Rattle.s10_schema.specs.Schema.{with_closed}
use Rattle.s10_statements.specs.Statements.{insert_head_sql}
use Rattle.s10_statements.specs.Statements.{insert_call_sql, insert_range_sql, update_mark_sql}
use Rattle.s10_statements.specs.Statements.{insert_serial_sql, upsert_serial_sql, insert_closed_sql}

-- Under the schema the text is this command.
pub record IsCommand (schema : Schema) (sql : List ℕ) (command : Command) : Type 0 where
  pub is : command_of (understood schema sql) ≡ command
  pub plain : IsPlain (understood schema sql)

-- The values of a stored row with these columns: the position of a key that is the rowid holds none.
abbrev pub values_of : Option ℕ → ℕ → List Term
values_of None n = lit Null ∷ map (col 0) (range_with_len 0 n)
values_of (Some key) n = col 0 0 ∷ lit Null ∷ map (col 0) (range_with_len 1 (n - 1))

-- The values of a stored row, by the parameters.
abbrev pub values_in : Table → List Term
values_in t = values_of t.key (length t.columns)

abbrev pub settings_terms : List Term
settings_terms = lit (Int (pos 1)) ∷ lit Null ∷ lit (Int (pos 1)) ∷ col 0 0 ∷ col 0 1 ∷ []

pub settings_means : (o : Schema) → IsCommand (with_closed o) insert_head_sql (Insert 0
    (Values settings_terms 5))
unfolding understood everything
settings_means o = record { is = refl; plain = (refl, refl) }

abbrev pub keep_terms : List Term
keep_terms = values_in calls_table

pub keep_means : (o : Schema) → IsCommand (with_closed o) insert_call_sql (Insert 1 (Values
    keep_terms 6))
unfolding understood everything
keep_means o = record { is = refl; plain = (refl, refl) }

abbrev pub grant_terms : List Term
grant_terms = values_in ranges_table

pub grant_means : (o : Schema) → IsCommand (with_closed o) insert_range_sql (Insert 2 (Values
    grant_terms 7))
unfolding understood everything
grant_means o = record { is = refl; plain = (refl, refl) }

abbrev pub mark_query : Query
mark_query = record {
  from = inner 3 end;
  filter = op2 (Compare Eq Binary) (col 1 0) (col 0 0) ∷ [];
  group = None;
  project = col 1 0 ∷ col 1 0 ∷ lit Null ∷ col 1 2 ∷ col 1 3 ∷ col 1 4 ∷ col 1 5 ∷ col 0 1 ∷ [];
  distinct = false;
  collations = [];
  order = [];
  limit = lit (Int (negsuc 0));
  offset = lit (Int (pos 0));
}

pub mark_means : (o : Schema) → IsCommand (with_closed o) update_mark_sql (Update 2 (record {
  lets
      = [];
  body = mark_query;
}))
unfolding understood everything
mark_means o = record { is = refl; plain = (refl, refl) }

abbrev pub issue_terms : List Term
issue_terms = values_in serials_table

abbrev pub update_query : Query
update_query = record {
  from = inner 4 end;
  filter = op2 (Compare Eq Binary) (col 1 0) (col 0 7) ∷ [];
  group = None;
  project = col 1 0 ∷ col 1 0 ∷ col 1 1 ∷ col 1 2 ∷ col 0 2 ∷ col 0 3 ∷ col 0 4 ∷ col 0 5 ∷ col 0 6
      ∷ [];
  distinct = false;
  collations = [];
  order = [];
  limit = lit (Int (negsuc 0));
  offset = lit (Int (pos 0));
}

abbrev pub issue_upsert : Upsert
issue_upsert = record {
  target = Some (1 ∷ 2 ∷ []);
  update = Some (record { lets = []; body = update_query });
}

pub issue_means : (o : Schema) → IsCommand (with_closed o) insert_serial_sql (Insert 3 (Values
    issue_terms 8))
unfolding understood everything
issue_means o = record { is = refl; plain = (refl, refl) }

pub again_means : (o : Schema) → IsCommand (with_closed o) upsert_serial_sql (InsertOr 3 Abort
    (Values issue_terms 8) (issue_upsert ∷ []))
unfolding understood everything
again_means o = record { is = refl; plain = (refl, refl) }

abbrev pub close_terms : List Term
close_terms = values_in closed_table

pub close_means : (o : Schema) → IsCommand (with_closed o) insert_closed_sql (Insert 4 (Values
    close_terms 3))
unfolding understood everything
close_means o = record { is = refl; plain = (refl, refl) }
