-- Defines the states of a ledger's connection between two calls, and what a crash leaves.
use Rattle.std.specs.Prelude.{◌≡◌, ◌≤◌, Bool, false, true, IsTrue}
use Rattle.sqlite_trees.specs.Tree.{Trees}
use Rattle.sqlite_trees.specs.View.{doubt}
use Rattle.sqlite_trees.specs.declared.store.Store.{Ghosts}
use Rattle.sqlite_schema.specs.declared.schema.Schema.{Schema}
use Rattle.sqlite.specs.State.{HasCleanDisk}
use Rattle.sqlite.specs.Held.{Held, state}
use Rattle.s10_schema.specs.Schema.{IsLedgerSchema}

-- The disk is clean.
abbrev pub IsClean : {S : Type 0} → Ghosts S → Held S → Type 0
IsClean g conn = HasCleanDisk (state g conn)

-- The connection is open.
abbrev pub IsOpen : {S : Type 0} → Ghosts S → Held S → Type 0
IsOpen g conn = IsTrue (state g conn).is_open

-- The connection is in a transaction.
abbrev pub IsInTransaction : {S : Type 0} → Ghosts S → Held S → Type 0
IsInTransaction g conn = IsTrue (state g conn).in_transaction

-- A disk that was not clean before is not clean afterwards.
abbrev pub StaysUnclean : {S : Type 0} → Ghosts S → Held S → Held S → Type 0
StaysUnclean g old new = doubt (state g old).is_clean ≤ doubt (state g new).is_clean

-- A connection is quiescent if it is in no transaction and what it shows is committed.
pub record IsQuiescent {S : Type 0} (g : Ghosts S) (conn : Held S) : Type 0 where
  pub idle : conn.in_transaction ≡ false
  pub committed : IsClean g conn → IsOpen g conn → (state g conn).committed ≡ (state g conn).now

-- If the disk is clean afterwards it was clean before, and if the connection is then open it was
-- open before.
abbrev pub WasSound : {S : Type 0} → Ghosts S → Held S → Held S → Type 0
WasSound g old new = IsClean g new → IsClean g old × (IsOpen g new → IsOpen g old)

-- A connection that answered its last statement is open, if the disk is clean.
abbrev pub IsOpenIf : {S : Type 0} → Ghosts S → Held S → Bool → Type 0
IsOpenIf g conn answered = answered ≡ true → IsClean g conn → IsOpen g conn

-- Under a schema that fits, a crash leaves only what a crash could leave before.
abbrev pub AddsNoCrashStateWhere : {S : Type 0} → (Schema → Type 0) → Ghosts S → Held S → Held S
    → Type 0
AddsNoCrashStateWhere Fits g old new = IsClean g new → Fits (state g old).now.schema → (db : Trees)
    → (state g new).may_leave db → (state g old).may_leave db

-- In any ledger, a crash leaves only what a crash could leave before.
abbrev pub AddsNoCrashState : {S : Type 0} → Ghosts S → Held S → Held S → Type 0
AddsNoCrashState g old new = AddsNoCrashStateWhere IsLedgerSchema g old new
