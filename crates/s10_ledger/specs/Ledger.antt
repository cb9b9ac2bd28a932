-- Defines what a ledger in tables holds, and when it is honest.
use Rattle.std.specs.Prelude.{◌≡◌, ◌⊎◌, ℕ, zero, suc, ◌+◌, ◌-◌, ◌^◌, ◌≤◌, min, pos, IsTrue, List}
use Rattle.std.specs.Prelude.{[], ◌++◌, length, map, filter, All, Option, Some, None, refl}
use Rattle.std.specs.Coded.{Coded, code_by, coded×, coded_ℕ, coded_list}
use Rattle.sqlite_trees.specs.Tree.{Trees}
use Rattle.sqlite_trees.specs.declared.store.Store.{Ghosts}
use Rattle.sqlite.specs.Effect.{Database}
use Rattle.sqlite.specs.State.{HasCleanDisk}
use Rattle.sqlite.specs.Held.{Held, held_code, state}
use Rattle.s10_history.specs.declared.entry.Entry.{Entry}
use Rattle.s10_history.specs.contracts.entry.Entry as entry
use Rattle.s10_book.specs.declared.faults.Faults.{Faults}
use Rattle.s10_history.specs.Settings.{Terms}
use Rattle.s10_history.specs.History.{day_of}
use Rattle.s10_book.specs.Book.{FindsAfter, Unchanged}
use Rattle.s10_book.specs.GroupCommit.{CommitsSome}
use Rattle.s10_book.specs.Rules.{IsLegal}
use Rattle.s10_index.specs.declared.call_index.CallIndex.{CallIndex}
use Rattle.s10_index.specs.CallIndex.{Indexes}
use Rattle.s10_rows.specs.CallRow.{StoredCall}
use Rattle.s10_replay.specs.RightRows.{entry_of}
use Rattle.s10_rows.specs.Selected.{IsCall, arrives_between}
use Rattle.s10_rows.specs.Tables.{Tables, tables_of}
use Rattle.s10_schema.specs.Schema.{ledger_schema}
use Rattle.s10_statements.specs.Shown.{HasTables, HasOldTables, call_columns, call_from}

-- The calls with one of n successive arrivals, of which the first is the given one, in order of
-- arrival.
abbrev pub in_turn : ℕ → ℕ → List StoredCall → List Entry
in_turn zero arrival calls = []
in_turn (suc n) arrival calls =
    map entry_of (filter (arrives_between (pos arrival) (pos arrival)) calls)
    ++ in_turn n (arrival + 1) calls

-- The calls that the rows keep, in order of arrival.
unfoldable pub history_in : Database → List Entry
history_in db = let calls = map call_from (map call_columns (db.trees 1)) in
    in_turn (length calls) 1 calls

-- The index holds the committed history, if the disk is clean and the connection open.
abbrev pub IsIndexed : {S : Type 0} → Ghosts S → Held S → CallIndex → Type 0
IsIndexed g conn index = HasCleanDisk (state g conn) → IsTrue (state g conn).is_open
    → Indexes index (history_in (state g conn).now)

-- The value of a ledger: its connection, its settings, the number of committed calls, the day of
-- the last of these, the faults counted, and the pending calls.
pub record Ledger (S : Type 0) : Type 0 where
  pub conn : Held S
  pub terms : Terms
  pub len : ℕ
  pub day : ℕ
  pub faults : Faults
  pub pending : List Entry

-- The settings as data.
abbrev pub terms_code : Coded Terms
terms_code = code_by (ℕ × ℕ) (coded× coded_ℕ coded_ℕ) (λ t. (t.interval, t.limit))
    (λ p. record { interval = p.0; limit = p.1 }) (λ _. refl)

-- The fault counts as data.
abbrev pub faults_code : Coded Faults
faults_code = code_by (ℕ × ℕ) (coded× coded_ℕ coded_ℕ) (λ f. (f.memory, f.store))
    (λ p. record { memory = p.0; store = p.1 }) (λ _. refl)

-- The value of a ledger as data.
abbrev pub ledger_code : {S : Type 0} → Coded S → Coded (Ledger S)
ledger_code {S} store =
    code_by (Held S × (Terms × (ℕ × (ℕ × (Faults × List Entry)))))
    (coded× (held_code store)
    (coded× terms_code
    (coded× coded_ℕ (coded× coded_ℕ (coded× faults_code (coded_list entry.the_row.coded))))))
    (λ l. (l.conn, (l.terms, (l.len, (l.day, (l.faults, l.pending))))))
    (λ p. record {
      conn = p.0;
      terms = p.1.0;
      len = p.1.1.0;
      day = p.1.1.1.0;
      faults = p.1.1.1.1.0;
      pending = p.1.1.1.1.1;
    })
    (λ _. refl)

-- Such tables stand for a history of that length, with that last day.
pub record Holds (Has : Database → Tables → Type 0) (db : Database) (t : Terms) (len day : ℕ) :
    Type 0 where
  pub tables : Has db (tables_of (history_in db) t)
  pub calls : All IsCall (history_in db)
  pub len_is : len ≡ length (history_in db)
  pub day_is : day ≡ day_of (history_in db)

-- A database is a ledger in such tables if its history is legal and the tables stand for it.
pub record IsLedgerIn (Has : Database → Tables → Type 0) (db : Database) (t : Terms)
    (len day : ℕ) : Type 0 where
  pub legal : IsLegal (history_in db) t
  pub held : ∥ Holds Has db t len day ∥₁

-- A database is a ledger: in the five tables.
abbrev pub IsLedger : Database → Terms → ℕ → ℕ → Type 0
IsLedger db t len day = IsLedgerIn HasTables db t len day

-- A database is a ledger of an earlier build: in its four tables.
abbrev pub IsOldLedger : Database → Terms → ℕ → ℕ → Type 0
IsOldLedger db t len day = IsLedgerIn HasOldTables db t len day

-- A database is a ledger of this build or of an earlier one.
abbrev pub IsAnyLedger : Database → Terms → ℕ → ℕ → Type 0
IsAnyLedger db t len day = IsLedger db t len day ⊎ IsOldLedger db t len day

-- The committed calls.
abbrev pub committed_of : {S : Type 0} → Ghosts S → Ledger S → List Entry
committed_of g l = history_in (state g l.conn).now

-- The history: the committed calls, followed by the pending ones.
abbrev pub history_of : {S : Type 0} → Ghosts S → Ledger S → List Entry
history_of g l = history_in (state g l.conn).now ++ l.pending

-- A ledger is honest if its disk is clean, its connection is open, what this shows is committed,
-- its tables are a ledger, and its history is legal.
pub record IsHonest {S : Type 0} (g : Ghosts S) (l : Ledger S) : Type 0 where
  pub clean : HasCleanDisk (state g l.conn)
  pub is_open : IsTrue (state g l.conn).is_open
  pub committed : (state g l.conn).committed ≡ (state g l.conn).now
  pub ledger : IsLedger (state g l.conn).now l.terms l.len l.day
  pub legal : IsLegal (history_of g l) l.terms

-- The disk of the ledger is clean.
abbrev pub IsOverCleanDisk : {S : Type 0} → Ghosts S → Ledger S → Type 0
IsOverCleanDisk g l = HasCleanDisk (state g l.conn)

-- Under the schema of a ledger, the trees are a ledger with these settings and calls.
pub record HoldsCalls (db : Trees) (t : Terms) (calls : List Entry) : Type 0 where
  pub history : history_in (record { schema = ledger_schema; trees = db }) ≡ calls
  pub ledger : IsLedger (record { schema = ledger_schema; trees = db }) t (length calls)
      (day_of calls)

-- What an opening finds in these trees: the calls of a ledger with these settings, or no such
-- ledger.
abbrev pub IsFoundInTrees : Trees → Terms → Option (List Entry) → Type 0
IsFoundInTrees db t (Some calls) = HoldsCalls db t calls
IsFoundInTrees db t None = (calls : List Entry) → ¬ HoldsCalls db t calls

-- What an opening may find if the process stops now.
abbrev pub MayFind : {S : Type 0} → Ghosts S → Ledger S → Option (List Entry) → Type 0
MayFind g l found = (db : Trees) × (state g l.conn).may_leave db × IsFoundInTrees db l.terms found

-- A call leaves the ledger unchanged.
abbrev pub LeavesUnchanged : {S : Type 0} → Ghosts S → Ledger S → Ledger S → Type 0
LeavesUnchanged {S} g old new = Unchanged (history_of g) (committed_of g)
    (λ (l : Ledger S). l.terms) (IsHonest g) (IsOverCleanDisk g) (MayFind g) old new

-- A call commits some of the pending calls: all, the first of them, or none.
abbrev pub CommitsSomeOf : {S : Type 0} → Ghosts S → Ledger S → Ledger S → Type 0
CommitsSomeOf {S} g old new = CommitsSome (history_of g) (committed_of g) (λ (l : Ledger S). l.terms)
    (IsHonest g) (IsOverCleanDisk g) (MayFind g) old new

-- After a stop, an opening may find what it could find before the call or, if the ledger was
-- honest, these calls.
abbrev pub MayFindAlso : {S : Type 0} → Ghosts S → Ledger S → Ledger S → List Entry → Type 0
MayFindAlso g old new calls = FindsAfter (IsHonest g) (IsOverCleanDisk g) (MayFind g) old new
    (λ found. found ≡ calls)

-- The connection is open if its disk is clean.
abbrev pub IsOpenIfClean : {S : Type 0} → Ghosts S → Held S → Type 0
IsOpenIfClean g conn = HasCleanDisk (state g conn) → IsTrue (state g conn).is_open

-- The disk has failed or refused since: the count of its faults rose, or is at the greatest u64.
abbrev pub HasFailed : {S : Type 0} → Ghosts S → Held S → Held S → Type 0
HasFailed g old new = min ((state g old).faults + 1) (2 ^ 64 - 1) ≤ (state g new).faults

-- What a stop may leave could be left before the call.
abbrev pub LeavesCommitted : {S : Type 0} → Ghosts S → Held S → Held S → Type 0
LeavesCommitted g old new = HasCleanDisk (state g new) → (db : Trees) → (state g new).may_leave db
    → (state g old).may_leave db

-- What a stop may leave could be left before the call, or it is a ledger with no call.
abbrev pub MayCreate : {S : Type 0} → Ghosts S → Terms → Held S → Held S → Type 0
MayCreate g t old new = HasCleanDisk (state g new) → (db : Trees) → (state g new).may_leave db
    → (state g old).may_leave db
    ⊎ ((history_in (record { schema = ledger_schema; trees = db }) ≡ [])
    × IsLedger (record { schema = ledger_schema; trees = db }) t 0 0)

-- The trees have five tables, and the history of the ledger that the database had.
abbrev pub IsCompletedIn : Database → Trees → Type 0
IsCompletedIn was db = (t : Terms) (len day : ℕ) → IsAnyLedger was t len day
    → (history_in (record { schema = ledger_schema; trees = db }) ≡ history_in was)
    × IsLedger (record { schema = ledger_schema; trees = db }) t len day

-- What a stop may leave could be left before the call, or it is the same ledger with five tables.
abbrev pub MayComplete : {S : Type 0} → Ghosts S → Held S → Held S → Type 0
MayComplete g old new = HasCleanDisk (state g new) → (db : Trees) → (state g new).may_leave db
    → (state g old).may_leave db ⊎ IsCompletedIn (state g old).now db
