-- Defines what an audit finds of a database, what it leaves of the files, and what it prints.
use Rattle.std.specs.Prelude.{◌≡◌, ◌⊎◌, ℕ, List, [], ◌∷◌, length, codes, decimal, Result, Ok, Err, OnOk}
use Rattle.sqlite_disk.specs.declared.Disk as disk
use Rattle.sqlite_disk.specs.declared.Files.{Files}
use Rattle.sqlite_wal.specs.Reads.{AreClean}
use Rattle.sqlite_trees.specs.declared.store.Store.{Ghosts}
use Rattle.sqlite_store.specs.declared.store.FileStore.{FileStore}
use Rattle.sqlite.specs.Effect.{Database}
use Rattle.sqlite.specs.Files.{over_files, file_state, IsOpened}
use Rattle.sqlite.specs.Held.{Held, state}
use Rattle.s10_history.specs.Settings.{Terms}
use Rattle.s10_lines.specs.Lines.{line_of}
use Rattle.s10_rows.specs.declared.open_fault.OpenFault.{OpenFault}
use Rattle.s10_schema.specs.Schema.{IsClosedSchema}
use Rattle.s10_ledger.specs.Ledger.{IsAnyLedger, history_in, IsCompletedIn, MayComplete}
use Rattle.s10_statements.specs.ConnectionState.{IsClean, IsOpen, WasSound}
use Rattle.s10_ledger.specs.Refusals.{IsOpeningRefusal}
use Rattle.s10_jobs.specs.declared.job_status.JobStatus.{JobStatus}
use Rattle.s10_jobs.specs.declared.job_status.JobStatus.TheVariants.{Done, Failed}
use Rattle.s10_jobs.specs.Words.{open_fault_words}
use Rattle.s10_host.specs.Files.{Hold}

-- The database is a ledger of n calls, of this build or of an earlier one.
pub record HoldsCalls (db : Database) (count : ℕ) : Type 0 where
  pub terms : Terms
  pub len : ℕ
  pub day : ℕ
  pub ledger : IsAnyLedger db terms len day
  pub counted : count ≡ length (history_in db)

-- The finding is right for the database: the number of kept calls, or why it is no ledger.
abbrev pub IsFinding : Database → Result ℕ OpenFault → Type 0
IsFinding db (Ok count) = HoldsCalls db count
IsFinding db (Err fault) = IsOpeningRefusal db fault

-- An audit leaves the database as it was, or completes one of an earlier build, with the same
-- history.
abbrev pub IsLeftByAudit : Database → Database → Result ℕ OpenFault → Type 0
IsLeftByAudit before after (Ok count) = (IsClosedSchema before.schema → after ≡ before)
    × (history_in after ≡ history_in before)
IsLeftByAudit before after (Err fault) = after ≡ before

-- The finding is right for the database that the connection showed before the audit, if the
-- connection is open afterwards and its disk is clean. What it shows then is committed. The disk is
-- clean afterwards only if it was clean before. What a crash leaves it left before, or it is the
-- same ledger with five tables.
pub record HasFound {S : Type 0} (g : Ghosts S) (before left : Held S)
    (found : Result ℕ OpenFault) : Type 0 where
  pub sound : WasSound g before left
  pub opened : IsClean g left → OnOk found (IsOpen g left)
  pub committed : IsClean g left → IsOpen g left → (state g left).committed ≡ (state g left).now
  pub finding : IsClean g left → IsOpen g left → IsFinding (state g before).now found
  pub leaves : IsClean g left → IsOpen g left
      → IsLeftByAudit (state g before).now (state g left).now found
  pub crash : MayComplete g before left

module _ {D : Type 0} {g : disk.Ghosts D} where
  -- The files hold what the connection showed before the audit, or the same ledger with five tables.
  -- If the connection was open after the audit, the finding is right for what it showed before, and
  -- the files hold what the audit left of it.
  pub record HoldsAudited (was left : Held (FileStore D g)) (found : Result ℕ OpenFault)
      (files : Files D) : Type 0 where
    pub kept : Hold g (λ db. (db ≡ (file_state was).now.trees)
        ⊎ IsCompletedIn (file_state was).now db) files
    pub finding : IsOpen over_files left → IsFinding (file_state was).now found
    pub same : IsOpen over_files left → (after : Database)
        × IsLeftByAudit (file_state was).now after found × Hold g (λ db. db ≡ after.trees) files

  -- The same, if both files kept what was written and the connection was open before the audit.
  abbrev pub KeepsAudited : Held (FileStore D g) → Held (FileStore D g) → Result ℕ OpenFault
      → Files D → Type 0
  KeepsAudited was left found files = AreClean g files.log files.db → IsOpened was
      → HoldsAudited was left found files

-- The line that an audit prints.
abbrev pub audit_line : Result ℕ OpenFault → List ℕ
audit_line (Ok count) = line_of (codes "ledger") (codes "ok" ∷ decimal count ∷ [])
audit_line (Err fault) = line_of (codes "ledger") (open_fault_words fault)

-- The status of an audit.
abbrev pub audit_status : Result ℕ OpenFault → JobStatus
audit_status (Ok count) = Done
audit_status (Err fault) = Failed
