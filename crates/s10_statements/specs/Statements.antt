-- Defines the texts of the statements, and what a read leaves unchanged.
use Rattle.std.specs.Prelude.{◌≡◌, ℕ, List, [], ◌∷◌, ◌++◌, drop, codes}
use Rattle.sqlite_trees.specs.declared.store.Store.{Ghosts}
use Rattle.sqlite_schema.specs.declared.schema.Schema.{Schema}
use Rattle.sqlite.specs.Held.{Held, state}
use Rattle.s10_schema.specs.Schema.{head_table, calls_table, ranges_table, serials_table}
use Rattle.s10_schema.specs.Schema.{closed_table, calls_index, IsLedgerSchema}
use Rattle.s10_schema.specs.Columns.{names_in, names_at, listed, enclosed, create_sql, select_sql}
use Rattle.s10_schema.specs.Columns.{parameters_from, insert_sql, insert_row_sql, sets_from}
use Rattle.s10_statements.specs.ConnectionState.{IsQuiescent, IsClean, IsOpen, StaysUnclean}

-- All rows of head.
abbrev pub select_head_sql : List ℕ
select_head_sql = select_sql head_table (names_in head_table) []

-- All rows of calls, in order of arrival.
abbrev pub select_calls_sql : List ℕ
select_calls_sql = select_sql calls_table (names_in calls_table) []

-- All rows of ranges, in order of their numbers.
abbrev pub select_ranges_sql : List ℕ
select_ranges_sql = select_sql ranges_table (names_in ranges_table) []

-- The rows of serials of a pair, with a serial in a span.
abbrev pub select_serials_within_sql : List ℕ
select_serials_within_sql =
    select_sql serials_table (names_in serials_table)
    (codes " WHERE pair = ?1 AND serial BETWEEN ?2 AND ?3")

-- All rows of serials, with their rowids.
abbrev pub select_serials_sql : List ℕ
select_serials_sql = select_sql serials_table (names_in serials_table ++ codes "rowid" ∷ []) []

-- All rows of closed, in order of the numbers of their ranges.
abbrev pub select_closed_sql : List ℕ
select_closed_sql = select_sql closed_table (names_in closed_table) []

-- Creates head.
abbrev pub create_head_sql : List ℕ
create_head_sql = create_sql head_table (codes " PRIMARY KEY CHECK (one = 1)") []

-- Creates calls.
abbrev pub create_calls_sql : List ℕ
create_calls_sql =
    create_sql calls_table (codes " PRIMARY KEY")
    ((codes "UNIQUE " ++ enclosed (names_at calls_table calls_index.columns)) ∷ [])

-- Creates ranges.
abbrev pub create_ranges_sql : List ℕ
create_ranges_sql = create_sql ranges_table (codes " PRIMARY KEY") []

-- Creates serials.
abbrev pub create_serials_sql : List ℕ
create_serials_sql =
    create_sql serials_table []
    ((codes "PRIMARY KEY " ++ enclosed (names_at serials_table serials_table.primary)) ∷ [])

-- Creates closed.
abbrev pub create_closed_sql : List ℕ
create_closed_sql = create_sql closed_table (codes " PRIMARY KEY") []

-- Inserts the row of head.
abbrev pub insert_head_sql : List ℕ
insert_head_sql =
    insert_sql head_table (codes "1" ∷ codes "1" ∷ parameters_from 1 2)

-- Inserts a row of calls.
abbrev pub insert_call_sql : List ℕ
insert_call_sql = insert_row_sql calls_table

-- Inserts a row of ranges.
abbrev pub insert_range_sql : List ℕ
insert_range_sql = insert_row_sql ranges_table

-- Updates the mark of a range.
abbrev pub update_mark_sql : List ℕ
update_mark_sql = codes "UPDATE ranges SET mark = ?2 WHERE num = ?1"

-- Inserts a row of serials.
abbrev pub insert_serial_sql : List ℕ
insert_serial_sql = insert_row_sql serials_table

-- Inserts a row of serials, or updates the row of its identifier.
abbrev pub upsert_serial_sql : List ℕ
upsert_serial_sql =
    insert_serial_sql ++ codes " ON CONFLICT "
    ++ enclosed (names_at serials_table serials_table.primary) ++ codes " DO UPDATE SET "
    ++ listed (sets_from 3 (drop 2 (names_in serials_table)))

-- Inserts a row of closed.
abbrev pub insert_closed_sql : List ℕ
insert_closed_sql = insert_row_sql closed_table

-- A read under a schema that fits leaves the tables as they were, and a quiescent connection
-- quiescent. The clauses on the tables hold if the disk is clean and the connection open after the
-- read. A disk that was not clean stays so.
pub record LeavesTablesWhere {S : Type 0} (Fits : Schema → Type 0) (g : Ghosts S)
    (old new : Held S) : Type 0 where
  pub clean : StaysUnclean g old new
  pub was_open : IsClean g new → IsOpen g new → IsOpen g old
  pub now : IsClean g new → IsOpen g new → IsQuiescent g old → Fits (state g old).now.schema
      → (state g new).now ≡ (state g old).now
  pub settled : IsQuiescent g old → IsQuiescent g new

-- In any ledger, a read leaves the tables as they were.
abbrev pub LeavesTables : {S : Type 0} → Ghosts S → Held S → Held S → Type 0
LeavesTables g old new = LeavesTablesWhere IsLedgerSchema g old new
