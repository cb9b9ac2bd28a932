-- Defines what statements say of a table, by the columns that its declaration lists.
use Rattle.std.specs.Prelude.{ℕ, ◌+◌, ◌-◌, List, [], ◌∷◌, ◌++◌, map, length, Option, Some}
use Rattle.std.specs.Prelude.{None, codes, slice_index_or}
use Rattle.std.specs.List.{range_with_len}
use Rattle.sqlite_value.specs.Order.{Row, column}
use Rattle.sqlite_schema.specs.declared.schema.Column.{Column}
use Rattle.sqlite_schema.specs.declared.schema.Table.{Table}
use Rattle.sqlite_schema.specs.declared.schema.Kind.{Kind}
use Rattle.sqlite_schema.specs.declared.schema.Kind.TheVariants.{Blob}

-- The names of the columns.
abbrev pub names_in : Table → List (List ℕ)
names_in t = map (λ c. c.name) t.columns

-- The positions of n columns in a stored row, which begins with the rowid. If that is the first
-- column, the position after it holds no value.
abbrev pub positions_of : Option ℕ → ℕ → List ℕ
positions_of None n = range_with_len 1 n
positions_of (Some key) n = 0 ∷ range_with_len 2 (n - 1)

-- The positions of the columns in a stored row.
abbrev pub positions_in : Table → List ℕ
positions_in t = positions_of t.key (length t.columns)

-- The columns of a stored row.
abbrev pub columns_in : Table → Row → Row
columns_in t r = map (column r) (positions_in t)

-- The names of the columns at these positions of a stored row.
abbrev pub names_at : Table → List ℕ → List (List ℕ)
names_at t positions = map (λ at. slice_index_or (names_in t) (at - 1) []) positions

-- The texts, with a comma between each two.
abbrev pub listed : List (List ℕ) → List ℕ
listed [] = []
listed (x ∷ []) = x
listed (x ∷ xs) = x ++ codes ", " ++ listed xs

-- The texts in parentheses.
abbrev pub enclosed : List (List ℕ) → List ℕ
enclosed xs = codes "(" ++ listed xs ++ codes ")"

-- The word of a kind.
abbrev pub kind_word : Kind → List ℕ
kind_word Blob = codes "BLOB"
kind_word kind = codes "INTEGER"

-- A column that is never NULL, as CREATE TABLE declares it.
abbrev pub column_text : Column → List ℕ
column_text c = c.name ++ codes " " ++ kind_word c.kind ++ codes " NOT NULL"

-- The columns as CREATE TABLE declares them, with these words after the first.
abbrev pub columns_text : List ℕ → List Column → List (List ℕ)
columns_text words [] = []
columns_text words (c ∷ cs) = (column_text c ++ words) ∷ map column_text cs

-- Creates the table, with these words after the first column, and with these constraints.
abbrev pub create_sql : Table → List ℕ → List (List ℕ) → List ℕ
create_sql t words constraints =
    codes "CREATE TABLE " ++ t.name ++ codes " "
    ++ enclosed (columns_text words t.columns ++ constraints) ++ codes " STRICT"

-- Selects these columns of the rows that pass the test, in order of the primary key.
abbrev pub select_sql : Table → List (List ℕ) → List ℕ → List ℕ
select_sql t names test =
    codes "SELECT " ++ listed names ++ codes " FROM " ++ t.name ++ test ++ codes " ORDER BY "
    ++ listed (names_at t t.primary)

-- The parameters with n numbers from the given one on. A number has one digit.
abbrev pub parameters_from : ℕ → ℕ → List (List ℕ)
parameters_from first n = map (λ k. codes "?" ++ (48 + k) ∷ []) (range_with_len first n)

-- Inserts a row with these values.
abbrev pub insert_sql : Table → List (List ℕ) → List ℕ
insert_sql t values =
    codes "INSERT INTO " ++ t.name ++ codes " " ++ enclosed (names_in t) ++ codes " VALUES "
    ++ enclosed values

-- Inserts a row whose values are the parameters.
abbrev pub insert_row_sql : Table → List ℕ
insert_row_sql t = insert_sql t (parameters_from 1 (length t.columns))

-- Sets each of the columns to the parameter of its index.
abbrev pub sets_from : ℕ → List (List ℕ) → List (List ℕ)
sets_from k [] = []
sets_from k (name ∷ names) = (name ++ codes " = ?" ++ (48 + k) ∷ []) ∷ sets_from (k + 1) names
