-- How a look at a snapshot ends.
use Rattle.std.proofs.Common.{◌≡◌, ap₂, inl, inr, refl, sym, subst, ℕ, List, IsTrue}
use Rattle.std.proofs.Common.{Option, Some, None, Result, Ok}
use Rattle.std.specs.Prelude.{IfOk, IfSome}
use Rattle.std.specs.Io.KnownBytes.{Appends}
use Rattle.sqlite_disk.specs.declared.Files.{Files}
use Rattle.sqlite_disk.specs.declared.memory.Memory.{Memory}
use Rattle.sqlite_disk.specs.Memory.{memory_bytes}
use Rattle.sqlite_wal.specs.Recovery.{Image}
use Rattle.sqlite_trees.proofs.Doubt.{no_doubt}
use Rattle.sqlite_pool.proofs.StateLemmas.{clean_is}
use Rattle.sqlite.specs.Files.{over_files, file_state, Finds, image_of}
use Rattle.sqlite.specs.Start.{FindsIn}
use Rattle.s10_lines.specs.declared.write_fault.WriteFault.{WriteFault}
use Rattle.s10_rows.specs.declared.open_fault.OpenFault.{OpenFault}
use Rattle.s10_statements.specs.ConnectionState.{IsClean}
use Rattle.s10_book.specs.declared.book_fault.BookFault.{BookFault}
use Rattle.s10_jobs.specs.declared.job_status.JobStatus.{JobStatus}
use Rattle.s10_jobs.specs.declared.job_status.JobStatus.TheVariants.{Failed}
use Rattle.s10_jobs.specs.declared.reporting.Report.{Report}
use Rattle.s10_snapshot.specs.declared.ledger_bytes.LedgerBytes.{LedgerBytes}
use Rattle.s10_host.specs.declared.snapshot_job.SnapshotJob.{SnapshotJob}
use Rattle.s10_host.specs.declared.snapshot_job.SnapshotJob.TheVariants.{Report as ReportOf}
use Rattle.s10_host.specs.Audited.{HasFound, audit_line, audit_status}
use Rattle.s10_host.specs.Files.{IsFileFault}
use Rattle.s10_host.specs.Jobs.{FailsByLedger, ledger_line}
use Rattle.s10_host.specs.LedgerJobs.{IsRefusedLeft, IsReportedOn, IsUsed}
use Rattle.s10_host.specs.Snapshots.{AreAuditedBytes, EndsLook, IsFoundInBytes}
use Rattle.s10_host.specs.Snapshots.{LooksAt, MemoryConnection, image_in, memory_files}
use Rattle.s10_host.proofs.Opening.{found_book}

-- A disk in memory is clean.
pub memory_is_clean : (c : MemoryConnection) → IsClean over_files c
memory_is_clean c = no_doubt _ (subst IsTrue (sym (clean_is c.store.pool)) refl)

-- What is found in files with these bytes is found in the bytes.
pub found_in_bytes : (files : Files Memory) (bytes : LedgerBytes) (c : MemoryConnection)
    → memory_bytes files.log ≡ bytes.log.items → memory_bytes files.db ≡ bytes.file.items
    → Finds files c → FindsIn (image_in bytes) (file_state c)
found_in_bytes files bytes c log db finds =
    let same : image_of memory_files files ≡ image_in bytes =
    ap₂ (λ (l d : List ℕ). let i : Image = record { log = l; db = d } in i) log db in
    subst (λ i. FindsIn i (file_state c)) same (record { holds = finds.holds; reads = finds.reads })

-- A report over a connection to the bytes.
pub looked_report : (bytes : LedgerBytes) (report : Report) (was left : MemoryConnection)
    (committed : Result (Unit {0}) BookFault) (old new : Option (List ℕ))
    (result : Result JobStatus WriteFault) → IsFoundInBytes bytes was
    → IsUsed over_files (IsReportedOn over_files report old new result) was left committed
    → LooksAt bytes (ReportOf report) left old new result
looked_report bytes report was left committed old new result found used = inl (record {
  opened = used.opened;
  found = found_book (image_in bytes) was used.opened (λ _. found) used.opening
      (memory_is_clean used.opened.conn);
  reported = used.left;
  written = λ live. used.does.written (used.closing.honest (memory_is_clean left) live);
})

-- A database in the bytes that was refused as a ledger.
pub looked_refused : (bytes : LedgerBytes) (report : Report) (was left : MemoryConnection)
    (fault : OpenFault) (old new : Option (List ℕ)) (result : Result JobStatus WriteFault)
    → IsFoundInBytes bytes was → IsRefusedLeft over_files was left fault
    → IfOk result (λ status. (status ≡ Failed) × Appends old new (ledger_line fault))
    → LooksAt bytes (ReportOf report) left old new result
looked_refused bytes report was left fault old new result found refusal printed = inr (record {
  was = was;
  found = found;
  fault = fault;
  refusal = refusal (memory_is_clean left);
  printed = printed;
})

-- An audit over a connection to the bytes.
pub looked_audit : (bytes : LedgerBytes) (was left : MemoryConnection)
    (old new : Option (List ℕ)) (result : Result JobStatus WriteFault)
    (finding : Result ℕ OpenFault) → IsFoundInBytes bytes was
    → HasFound over_files was left finding
    → IfOk result (λ status. (status ≡ audit_status finding) × Appends old new (audit_line finding))
    → AreAuditedBytes bytes left old new result
looked_audit bytes was left old new result finding found counted written = record {
  was = was;
  found = found;
  finding = finding;
  opened = counted.opened (memory_is_clean left);
  right = counted.finding (memory_is_clean left);
  written = written;
}

-- The bytes were looked at, or could not be opened.
pub ends_look : (bytes : LedgerBytes) (job : SnapshotJob) (left : Option MemoryConnection)
    (old new : Option (List ℕ)) (result : Result JobStatus WriteFault)
    → IfSome left (λ l. LooksAt bytes job l old new result)
    → (left ≡ None → IfOk result (FailsByLedger IsFileFault old new))
    → EndsLook (Ok bytes) job left old new result
ends_look bytes job None old new result looked unopened = unopened refl
ends_look bytes job (Some left) old new result looked unopened = looked
