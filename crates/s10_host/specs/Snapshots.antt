-- Defines what a look at a snapshot of a ledger did, and what it printed.
use Rattle.std.specs.Prelude.{◌≡◌, ◌⊎◌, ℕ, List, [], ◌∷◌, codes, Option, Some, None, Result}
use Rattle.std.specs.Prelude.{Ok, Err, OnOk, IfOk, IfSome}
use Rattle.std.specs.Io.KnownBytes.{Appends}
use Rattle.sqlite_disk.specs.declared.Disk as disk
use Rattle.sqlite_disk.specs.declared.memory.Memory.{Memory}
use Rattle.sqlite_disk.specs.contracts.memory.MemoryDisk.TheImpl as memory
use Rattle.sqlite_wal.specs.Recovery.{Image}
use Rattle.sqlite_store.specs.declared.store.FileStore.{FileStore}
use Rattle.sqlite.specs.Files.{over_files, file_state, IsOpened}
use Rattle.sqlite.specs.Held.{Held}
use Rattle.sqlite.specs.Start.{FindsIn}
use Rattle.s10_lines.specs.Lines.{line_of}
use Rattle.s10_lines.specs.declared.write_fault.WriteFault.{WriteFault}
use Rattle.s10_rows.specs.declared.open_fault.OpenFault.{OpenFault}
use Rattle.s10_rows.specs.declared.open_fault.OpenFault.TheVariants.{NotALedger}
use Rattle.s10_rows.specs.declared.open_fault.OpenFault.TheVariants.{Memory as NoMemory, Store}
use Rattle.s10_ledger.specs.Ledger.{Ledger, history_of}
use Rattle.s10_ledger.specs.Refusals.{IsOpeningRefusal}
use Rattle.s10_snapshot.specs.Readings.{IsTaken}
use Rattle.s10_snapshot.specs.declared.ledger_bytes.LedgerBytes.{LedgerBytes}
use Rattle.s10_snapshot.specs.declared.snapshot_fault.ReadFault.TheVariants as read
use Rattle.s10_snapshot.specs.declared.snapshot_fault.SnapshotFault.{SnapshotFault}
use Rattle.s10_snapshot.specs.declared.snapshot_fault.SnapshotFault.TheVariants.{Busy, Unread}
use Rattle.s10_jobs.specs.declared.job_status.JobStatus.{JobStatus}
use Rattle.s10_jobs.specs.declared.job_status.JobStatus.TheVariants.{Failed}
use Rattle.s10_jobs.specs.declared.look.Look.{Look}
use Rattle.s10_jobs.specs.declared.look.Look.TheVariants.{Report as AReport, Audit as AnAudit}
use Rattle.s10_jobs.specs.declared.reporting.Report.{Report}
use Rattle.s10_jobs.specs.Days.{IsTaken as IsDayTaken}
use Rattle.s10_jobs.specs.Reporting.{IsOfIssues, report_lines, PrintsReport}
use Rattle.s10_host.specs.declared.snapshot_job.SnapshotJob.{SnapshotJob}
use Rattle.s10_host.specs.declared.snapshot_job.SnapshotJob.TheVariants.{Report as ReportOf, Audit}
use Rattle.s10_host.specs.declared.snapshot_resources.SnapshotResources.{SnapshotResources}
use Rattle.s10_host.specs.Audited.{IsFinding, audit_line, audit_status}
use Rattle.s10_host.specs.Files.{IsFileFault, IsFoundBook}
use Rattle.s10_host.specs.Jobs.{FailsByLedger, IsAskedFor, ledger_line}
use Rattle.s10_statements.specs.ConnectionState.{IsOpen}

-- What the kit says of files in memory.
abbrev pub memory_files : disk.Ghosts Memory
memory_files = memory.ghosts

-- A connection to a database on a disk in memory.
abbrev pub MemoryConnection : Type 0
MemoryConnection = Held (FileStore Memory memory_files)

-- The bytes, as the kit names a log and its file.
abbrev pub image_in : LedgerBytes → Image
image_in bytes = record { log = bytes.log.items; db = bytes.file.items }

-- The connection is open, and shows what the bytes hold.
abbrev pub IsFoundInBytes : LedgerBytes → MemoryConnection → Type 0
IsFoundInBytes bytes c = IsOpened c × FindsIn (image_in bytes) (file_state c)

-- `left` is the connection that is returned.
module _ (bytes : LedgerBytes) (left : MemoryConnection) (old new : Option (List ℕ))
    (result : Result JobStatus WriteFault) where
  -- A ledger was opened from the bytes, and the report of its history was printed, if the connection
  -- is open at the end.
  pub record IsReportOfBytes (report : Report) : Type 0 where
    pub opened : Ledger (FileStore Memory memory_files)
    pub found : IsFoundBook (image_in bytes) opened
    pub reported : Ledger (FileStore Memory memory_files)
    pub written : IsOpen over_files left
        → IfOk result (PrintsReport opened.faults reported.faults old new
        (report_lines report (history_of over_files opened) opened.terms))

  -- The database in the bytes was refused as a ledger, and the line says why.
  pub record AreRefusedBytes : Type 0 where
    pub was : MemoryConnection
    pub found : IsFoundInBytes bytes was
    pub fault : OpenFault
    pub refusal : IsOpen over_files left → IsOpeningRefusal (file_state was).now fault
    pub printed : IfOk result (λ status. (status ≡ Failed) × Appends old new (ledger_line fault))

  -- The ledger in the bytes was audited: the finding is right for their database, and was printed.
  pub record AreAuditedBytes : Type 0 where
    pub was : MemoryConnection
    pub found : IsFoundInBytes bytes was
    pub finding : Result ℕ OpenFault
    pub opened : OnOk finding (IsOpen over_files left)
    pub right : IsOpen over_files left → IsFinding (file_state was).now finding
    pub written : IfOk result (λ status. (status ≡ audit_status finding)
        × Appends old new (audit_line finding))

-- The job was done for the bytes.
abbrev pub LooksAt : LedgerBytes → SnapshotJob → MemoryConnection → Option (List ℕ)
    → Option (List ℕ) → Result JobStatus WriteFault → Type 0
LooksAt bytes (ReportOf report) left old new result =
    IsReportOfBytes bytes left old new result report ⊎ AreRefusedBytes bytes left old new result
LooksAt bytes Audit left old new result = AreAuditedBytes bytes left old new result

-- The line of a ledger of which no snapshot was taken.
abbrev pub snapshot_line : SnapshotFault → List ℕ
snapshot_line Busy = line_of (codes "ledger") (codes "busy" ∷ [])
snapshot_line (Unread read.Missing) = ledger_line NotALedger
snapshot_line (Unread read.Memory) = ledger_line NoMemory
snapshot_line (Unread read.Store) = ledger_line Store

-- The job was done for the snapshot that was taken. Or the line says why there is none, or that its
-- bytes could not be opened as a database.
abbrev pub EndsLook : Result LedgerBytes SnapshotFault → SnapshotJob → Option MemoryConnection
    → Option (List ℕ) → Option (List ℕ) → Result JobStatus WriteFault → Type 0
EndsLook (Ok bytes) job (Some left) old new result = LooksAt bytes job left old new result
EndsLook (Ok bytes) job None old new result = IfOk result (FailsByLedger IsFileFault old new)
EndsLook (Err fault) job left old new result = (left ≡ None)
    × IfOk result (λ status. (status ≡ Failed) × Appends old new (snapshot_line fault))

-- The files at the path were read until a snapshot was taken or could not be, and nothing was
-- written to them. The snapshot is what the readings that are returned show.
pub record HasLookedAt (path : List ℕ) (job : SnapshotJob) (old new : Option (List ℕ))
    (result : Result JobStatus WriteFault) (resources : SnapshotResources) : Type 0 where
  pub at : resources.source.path ≡ path
  pub snapshot : Result LedgerBytes SnapshotFault
  pub taken : IsTaken resources.source.calls snapshot
  pub ends : EndsLook snapshot job resources.left old new result

module _ {C : Type 0} (gives : C → Option ℕ → C → Type 0) where
  -- The job is that of the look: the report that is asked for, or an audit, which takes no day.
  abbrev pub IsLookFor : Look → C → C → SnapshotJob → Type 0
  IsLookFor (AReport kind day) begun ended (ReportOf report) =
      IsAskedFor gives kind day begun ended report
  IsLookFor (AReport kind day) begun ended Audit = ⊥
  IsLookFor AnAudit begun ended (ReportOf report) = ⊥
  IsLookFor AnAudit begun ended Audit = ended ≡ begun

  -- A report that needs a day was asked for, no day was given and the source gave none.
  abbrev pub HasNoDay : Look → C → C → Type 0
  HasNoDay (AReport kind day) begun ended = (¬ IsOfIssues kind) × IsDayTaken gives day None begun ended
  HasNoDay AnAudit begun ended = ⊥

  -- The snapshot was looked at. Or the line says why nothing was read, in this order: there is no
  -- day, or no seed.
  pub record HasLooked (path : List ℕ) (look : Look) (begun ended : C) (old new : Option (List ℕ))
      (result : Result JobStatus WriteFault) (resources : Option SnapshotResources) : Type 0 where
    pub looked : IfSome resources (λ r. (job : SnapshotJob) × IsLookFor look begun ended job
        × HasLookedAt path job old new result r)
    pub unread : resources ≡ None
        → (HasNoDay look begun ended
        × IfOk result (λ status. (status ≡ Failed) × Appends old new (codes "clock\n")))
        ⊎ ((job : SnapshotJob) × IsLookFor look begun ended job
        × IfOk result (FailsByLedger (λ fault. fault ≡ Store) old new))
