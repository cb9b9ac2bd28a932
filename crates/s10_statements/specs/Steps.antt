-- Defines what a step of a transaction does.
use Rattle.std.specs.Prelude.{◌≡◌, Result, OnOk}
use Rattle.std.specs.Borrow.{MutBor}
use Rattle.sqlite_trees.specs.declared.store.Store.{Ghosts}
use Rattle.sqlite.specs.declared.error.Error.{Error}
use Rattle.sqlite.specs.Held.{Held, state}
use Rattle.sqlite.specs.State.{KeepsCommit, Survives}
use Rattle.s10_rows.specs.Tables.{Tables}
use Rattle.s10_statements.specs.Shown.{HasTables}
use Rattle.s10_statements.specs.ConnectionState.{IsClean, IsInTransaction}

-- A step of a transaction commits nothing. If it succeeds, the transaction goes on and this is done.
pub record IsStep {S T : Type 0} (g : Ghosts S) (old new : MutBor (Held S))
    (result : Result T Error) (Done : Type 0) : Type 0 where
  pub same_reference : new.ghost_name ≡ old.ghost_name
  pub done : IsClean g new.now → IsInTransaction g old.now
      → OnOk result (IsInTransaction g new.now × Done)
  pub kept : IsClean g new.now → IsInTransaction g old.now
      → KeepsCommit (state g old.now) (state g new.now)
  pub survives : Survives (state g old.now) (state g new.now) (λ _. ⊥)

-- The tables become what the edit makes of them.
abbrev pub EditsTables : {S : Type 0} → Ghosts S → MutBor (Held S) → MutBor (Held S)
    → (Tables → Tables) → Type 0
EditsTables g old new edit = (tables : Tables) → HasTables (state g old.now).now tables
    → HasTables (state g new.now).now (edit tables)

-- The tables that fit become what the edit makes of them.
abbrev pub EditsFittingTables : {S : Type 0} → Ghosts S → MutBor (Held S) → MutBor (Held S)
    → (Tables → Type 0) → (Tables → Tables) → Type 0
EditsFittingTables g old new Fits edit = (tables : Tables) → HasTables (state g old.now).now tables
    → Fits tables → HasTables (state g new.now).now (edit tables)
