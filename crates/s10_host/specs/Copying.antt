-- Defines what a copy of a ledger did, and what it printed.
use Rattle.std.specs.Prelude.{◌≡◌, ℕ, List, [], ◌∷◌, codes, decimal, Option, Some, None, Result}
use Rattle.std.specs.Prelude.{Ok, Err, OnOk, IfOk}
use Rattle.std.specs.Io.KnownBytes.{Appends}
use Rattle.sqlite.specs.Files.{over_files, file_state}
use Rattle.s10_lines.specs.Lines.{line_of}
use Rattle.s10_lines.specs.declared.write_fault.WriteFault.{WriteFault}
use Rattle.s10_rows.specs.declared.open_fault.OpenFault.{OpenFault}
use Rattle.s10_rows.specs.declared.open_fault.OpenFault.TheVariants.{Store}
use Rattle.s10_snapshot.specs.Copies.{CopyCalls, WritesCopy}
use Rattle.s10_snapshot.specs.Readings.{IsTaken, ReadCalls}
use Rattle.s10_snapshot.specs.declared.copy_fault.CopyFault.{CopyFault}
use Rattle.s10_snapshot.specs.declared.copy_fault.CopyFault.TheVariants as copy
use Rattle.s10_snapshot.specs.declared.ledger_bytes.LedgerBytes.{LedgerBytes}
use Rattle.s10_snapshot.specs.declared.snapshot_fault.SnapshotFault.{SnapshotFault}
use Rattle.s10_statements.specs.ConnectionState.{IsOpen}
use Rattle.s10_jobs.specs.Lines.{refused_line}
use Rattle.s10_jobs.specs.declared.job_status.JobStatus.{JobStatus}
use Rattle.s10_jobs.specs.declared.job_status.JobStatus.TheVariants.{Failed, Refused}
use Rattle.s10_host.specs.declared.copy_resources.CopyResources.{CopyResources}
use Rattle.s10_host.specs.Audited.{IsFinding, audit_line, audit_status}
use Rattle.s10_host.specs.Files.{IsFileFault}
use Rattle.s10_host.specs.Jobs.{FailsByLedger, ledger_line}
use Rattle.s10_host.specs.Snapshots.{IsFoundInBytes, MemoryConnection, snapshot_line}

-- The line of a copy that was written: the number of its calls, or why it is no ledger.
abbrev pub copied_line : Result ℕ OpenFault → List ℕ
copied_line (Ok count) = line_of (codes "copied") (decimal count ∷ [])
copied_line (Err fault) = audit_line (Err fault)

-- The status and the line of a copy that was not written.
abbrev pub copy_fault_status : CopyFault → JobStatus
copy_fault_status copy.Taken = Refused
copy_fault_status copy.Store = Failed

abbrev pub copy_fault_line : CopyFault → List ℕ
copy_fault_line copy.Taken = refused_line (codes "taken" ∷ [])
copy_fault_line copy.Store = ledger_line Store

module _ (old new : Option (List ℕ)) (result : Result JobStatus WriteFault) where
  -- The bytes of a copy were audited as a ledger: the finding is right for their database, and was
  -- printed. `left` is the connection that is returned.
  pub record AreCopiedBytes (bytes : LedgerBytes) (left : MemoryConnection) : Type 0 where
    pub was : MemoryConnection
    pub found : IsFoundInBytes bytes was
    pub finding : Result ℕ OpenFault
    pub opened : OnOk finding (IsOpen over_files left)
    pub right : IsOpen over_files left → IsFinding (file_state was).now finding
    pub written : IfOk result (λ status. (status ≡ audit_status finding)
        × Appends old new (copied_line finding))

  -- The snapshot of the copy was audited. Or the line says why there is none, or that its bytes could
  -- not be opened as a database.
  abbrev pub EndsAudit : Result LedgerBytes SnapshotFault → Option MemoryConnection → Type 0
  EndsAudit (Ok bytes) (Some left) = AreCopiedBytes bytes left
  EndsAudit (Ok bytes) None = IfOk result (FailsByLedger IsFileFault old new)
  EndsAudit (Err fault) left = (left ≡ None)
      × IfOk result (λ status. (status ≡ Failed) × Appends old new (snapshot_line fault))

  -- The copy was written, and then its files were read until a snapshot of them was taken or could
  -- not be. Or the line says why the copy was not written, and nothing was read.
  abbrev pub EndsCopy : Result (Unit {0}) CopyFault → ReadCalls → Option MemoryConnection → Type 0
  EndsCopy (Ok _) read left = (again : Result LedgerBytes SnapshotFault) × IsTaken read again
      × EndsAudit again left
  EndsCopy (Err fault) read left = (read ≡ []) × (left ≡ None)
      × IfOk result (λ status. (status ≡ copy_fault_status fault)
      × Appends old new (copy_fault_line fault))

  -- The snapshot of the ledger was written to new files. Or the line says why there is none, and
  -- nothing was created.
  abbrev pub EndsSnapshot : Result LedgerBytes SnapshotFault → CopyCalls → ReadCalls
      → Option MemoryConnection → Type 0
  EndsSnapshot (Ok bytes) calls read left = (written : Result (Unit {0}) CopyFault)
      × WritesCopy bytes calls written × EndsCopy written read left
  EndsSnapshot (Err fault) calls read left = (calls ≡ []) × (read ≡ []) × (left ≡ None)
      × IfOk result (λ status. (status ≡ Failed) × Appends old new (snapshot_line fault))

  -- The ledger at a path was copied to another one, as the readings and calls that are returned say.
  pub record IsCopied (path to : List ℕ) (used : CopyResources) : Type 0 where
    pub from : used.source.path ≡ path
    pub at : used.target.paths ≡ record { copy = to; ledger = path }
    pub again_at : used.again.path ≡ to
    pub snapshot : Result LedgerBytes SnapshotFault
    pub taken : IsTaken used.source.calls snapshot
    pub ends : EndsSnapshot snapshot used.target.calls used.again.calls used.left

-- The ledger was copied, or there is no seed and nothing was read.
abbrev pub HasCopied : List ℕ → List ℕ → Option (List ℕ) → Option (List ℕ)
    → Result JobStatus WriteFault → Option CopyResources → Type 0
HasCopied path to old new result (Some used) = IsCopied old new result path to used
HasCopied path to old new result None = IfOk result (FailsByLedger (λ fault. fault ≡ Store) old new)
