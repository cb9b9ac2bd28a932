-- Defines the five tables of a ledger, as CREATE TABLE declares them in an empty database, each
-- with its tree, and what may follow them. A ledger of an earlier build has only the first four.
use Rattle.std.specs.Prelude.{◌≡◌, true, false, [], ◌∷◌, Some, None, codes, List, ℕ, Bool, not}
use Rattle.std.specs.Prelude.{◌&&◌, ◌||◌, ◌==◌, drop, slice_index_or, pos}
use Rattle.std.specs.List.{list_all}
use Rattle.sqlite_value.specs.declared.keys.Collation.TheVariants.{Binary}
use Rattle.sqlite_value.specs.declared.value.Value.TheVariants.{Null, Int}
use Rattle.sqlite_value.specs.Keys.{plain}
use Rattle.sqlite_sql.specs.declared.ops.BinaryOp.TheVariants.{Compare}
use Rattle.sqlite_sql.specs.declared.ops.CompareOp.TheVariants.{Eq}
use Rattle.sqlite_sql.specs.Term.{Term, lit, col, op2}
use Rattle.sqlite_schema.specs.declared.code.Op.{Op}
use Rattle.sqlite_schema.specs.declared.code.Op.TheVariants.{Literal}
use Rattle.sqlite_schema.specs.declared.schema.Column.{Column}
use Rattle.sqlite_schema.specs.declared.schema.Table.{Table}
use Rattle.sqlite_schema.specs.declared.schema.Index.{Index}
use Rattle.sqlite_schema.specs.declared.schema.Reference.{Reference}
use Rattle.sqlite_schema.specs.Names.{same_name}
use Rattle.sqlite_schema.specs.declared.schema.Schema.{Schema}
use Rattle.sqlite_schema.specs.declared.schema.Kind.{Kind}
use Rattle.sqlite_schema.specs.declared.schema.Kind.TheVariants.{Integer, Blob}

-- A column of this kind that is never NULL.
abbrev pub column_of : List ℕ → Kind → Column
column_of name kind = record {
  name = name;
  kind = kind;
  is_strict = true;
  not_null = true;
  default = Null;
  collation = Binary;
}

-- A column of integers that is never NULL.
abbrev pub integer : List ℕ → Column
integer name = column_of name Integer

-- The check of head: one = 1.
abbrev pub one_is_one : Term
one_is_one = op2 (Compare Eq Binary) (col 1 0) (lit (Int (pos 1)))

-- The node at an index, or the literal NULL if there is none.
abbrev pub node_at : List Op → ℕ → Op
node_at nodes at = slice_index_or nodes at (Literal Null)

-- A table is bare if it has no rules but its keys and its checks.
pub record IsBare (t : Table) : Type 0 where
  pub references : t.references ≡ []
  pub computed : t.computed ≡ []
  pub stamps : t.stamps ≡ record { places = []; terms = []; formats = [] }
  pub uncounted : t.is_counted ≡ false

-- A table whose first column is the rowid, with no rules but this key.
abbrev pub keyed_table : List ℕ → ℕ → List Column → Table
keyed_table name tree columns = record {
  name = name;
  tree = tree;
  columns = columns;
  key = Some 0;
  primary = 0 ∷ [];
  uniques = [];
  orders = [];
  checks = [];
  references = [];
  computed = [];
  stamps = record { places = []; terms = []; formats = [] };
  is_counted = false;
}

-- The table head.
abbrev pub head_table : Table
head_table = record (keyed_table (codes "head") 0 (integer (codes "one") ∷ integer (codes "schema")
    ∷ integer (codes "interval") ∷ integer (codes "cap") ∷ [])) { checks = one_is_one ∷ [] }

-- The table calls.
abbrev pub calls_table : Table
calls_table = record (keyed_table (codes "calls") 1 (integer (codes "arrival")
    ∷ integer (codes "customer") ∷ integer (codes "number") ∷ integer (codes "day")
    ∷ column_of (codes "reply") Blob ∷ [])) {
      uniques = (2 ∷ 3 ∷ []) ∷ [];
      orders = plain ∷ [];
    }

-- The table ranges.
abbrev pub ranges_table : Table
ranges_table = keyed_table (codes "ranges") 3 (integer (codes "num") ∷ integer (codes "holder")
    ∷ integer (codes "pair") ∷ integer (codes "low") ∷ integer (codes "high")
    ∷ integer (codes "mark") ∷ [])

-- The table serials.
abbrev pub serials_table : Table
serials_table = record (keyed_table (codes "serials") 4 (integer (codes "pair")
    ∷ integer (codes "serial") ∷ integer (codes "arrival") ∷ integer (codes "day")
    ∷ integer (codes "customer") ∷ integer (codes "number") ∷ integer (codes "voided") ∷ [])) {
      key = None;
      primary = 1 ∷ 2 ∷ [];
      uniques = (1 ∷ 2 ∷ []) ∷ [];
      orders = plain ∷ [];
    }

-- The table closed.
abbrev pub closed_table : Table
closed_table = keyed_table (codes "closed") 6 (integer (codes "num") ∷ integer (codes "arrival")
    ∷ [])

-- The index that SQLite creates for the key of calls.
abbrev pub calls_index : Index
calls_index = record {
  name = codes "sqlite_autoindex_calls_1";
  tree = 2;
  table = 1;
  columns = 2 ∷ 3 ∷ [];
  order = plain;
  is_unique = true;
}

-- The index that SQLite creates for the primary key of serials.
abbrev pub serials_index : Index
serials_index = record {
  name = codes "sqlite_autoindex_serials_1";
  tree = 5;
  table = 4;
  columns = 1 ∷ 2 ∷ [];
  order = plain;
  is_unique = true;
}

-- The schema of an empty database.
abbrev pub no_schema : Schema
no_schema = record { tables = []; indexes = []; views = [] }

-- The first four tables of a ledger, with others after them.
abbrev pub with_others : Schema → Schema
with_others o = record {
  tables = head_table ∷ calls_table ∷ ranges_table ∷ serials_table
      ∷ o.tables;
  indexes = calls_index ∷ serials_index ∷ o.indexes;
  views = o.views;
}

-- The table closed, with others after it.
abbrev pub closed_first : Schema → Schema
closed_first o = record o { tables = closed_table ∷ o.tables }

-- The five tables of a ledger, with others after them.
abbrev pub with_closed : Schema → Schema
with_closed o = with_others (closed_first o)

-- The schema of a ledger with nothing else in its database.
abbrev pub ledger_schema : Schema
ledger_schema = with_closed no_schema

-- The schema of a ledger of an earlier build.
abbrev pub four_tables : Schema
four_tables = with_others no_schema

-- The tables after the first four, the indexes after the first two, and the views.
abbrev pub others_in : Schema → Schema
others_in s = record { tables = drop 4 s.tables; indexes = drop 2 s.indexes; views = s.views }

-- The tables after the first five, the indexes after the first two, and the views.
abbrev pub others_after_closed : Schema → Schema
others_after_closed s = record {
  tables = drop 5 s.tables;
  indexes = drop 2 s.indexes;
  views = s.views;
}

-- Whether the tree is that of one of the first four tables.
abbrev pub is_own_tree : ℕ → Bool
is_own_tree t = (t == 0) || ((t == 1) || ((t == 3) || (t == 4)))

-- Whether the name is that of one of the first four tables, without regard to case.
abbrev pub is_own_name : List ℕ → Bool
is_own_name name = same_name (codes "head") name || (same_name (codes "calls") name
    || (same_name (codes "ranges") name || same_name (codes "serials") name))

-- None of the foreign keys refers to one of the first four tables.
abbrev pub refer_apart : List Reference → Bool
refer_apart refs = list_all (λ r. not (is_own_name r.parent)) refs

-- None of the tables is one of the first four or refers to one of them.
abbrev pub are_apart : List Table → Bool
are_apart tables = list_all (λ t. not (is_own_tree t.tree) && refer_apart t.references) tables

-- None of the indexes is on one of the first four tables.
abbrev pub index_apart : List Index → Bool
index_apart indexes = list_all (λ i. not (is_own_tree i.table)) indexes

-- A schema is a ledger's if it begins with the first four tables of a ledger and their two indexes.
-- No other table may have a tree of theirs or a foreign key on them, and no other index may be on
-- them.
pub record IsLedgerSchema (s : Schema) : Type 0 where
  pub is : s ≡ with_others (others_in s)
  pub tables : are_apart (drop 4 s.tables) ≡ true
  pub indexes : index_apart (drop 2 s.indexes) ≡ true

-- None of the foreign keys refers to closed.
abbrev pub refer_apart_from_closed : List Reference → Bool
refer_apart_from_closed refs = list_all (λ r. not (same_name (codes "closed") r.parent)) refs

-- None of the tables is closed or refers to it.
abbrev pub are_apart_from_closed : List Table → Bool
are_apart_from_closed tables =
    list_all (λ t. not (t.tree == 6) && refer_apart_from_closed t.references) tables

-- None of the indexes is on closed.
abbrev pub index_apart_from_closed : List Index → Bool
index_apart_from_closed indexes = list_all (λ i. not (i.table == 6)) indexes

-- A schema is that of a ledger of this build if it begins with the five tables of a ledger. No
-- table after them may have the tree of closed or a foreign key on it, and no index may be on it.
pub record IsClosedSchema (s : Schema) : Type 0 where
  pub ledger : IsLedgerSchema s
  pub is : s ≡ with_closed (others_after_closed s)
  pub tables : are_apart_from_closed (drop 5 s.tables) ≡ true
  pub indexes : index_apart_from_closed s.indexes ≡ true
