-- Defines what each job has done when it ends, and what it has printed.
use Rattle.std.specs.Prelude.{◌≡◌, ◌≢◌, ◌⊎◌, ℕ, Bool, true, List, [], ◌∷◌, ◌++◌, codes}
use Rattle.std.specs.Prelude.{Option}
use Rattle.std.specs.Prelude.{Some, None, Result, Ok, Err, IsOk, IfOk, IfSome}
use Rattle.std.specs.Io.KnownBytes.{Appends}
use Rattle.sqlite_disk.specs.declared.Disk as disk
use Rattle.sqlite_disk.specs.declared.Files.{Files}
use Rattle.sqlite_wal.specs.Recovery.{Image}
use Rattle.sqlite_wal.specs.Reads.{AreClean}
use Rattle.sqlite.specs.Effect.{Database}
use Rattle.sqlite.specs.Files.{over_files}
use Rattle.s10_link.specs.declared.peer.Peer.{Peer}
use Rattle.s10_link.specs.Peer.{SpellsPeer}
use Rattle.s10_link.specs.UdpLink.{BoundLink, IsBoundAt}
use Rattle.s10_lines.specs.declared.write_fault.WriteFault.{WriteFault}
use Rattle.s10_lines.specs.Lines.{line_of}
use Rattle.s10_history.specs.Settings.{Terms}
use Rattle.s10_book.specs.declared.book_fault.BookFault.{BookFault}
use Rattle.s10_book.specs.Book.{Unchanged}
use Rattle.s10_ledger.specs.Ledger.{IsOverCleanDisk, MayFind, IsHonest, history_of, committed_of}
use Rattle.s10_rows.specs.declared.open_fault.OpenFault.{OpenFault}
use Rattle.s10_rows.specs.declared.open_fault.OpenFault.TheVariants.{Store}
use Rattle.s10_jobs.specs.declared.job_status.JobStatus.{JobStatus}
use Rattle.s10_jobs.specs.declared.job_status.JobStatus.TheVariants.{Done, Refused, Failed}
use Rattle.s10_jobs.specs.declared.turn_options.TurnOptions.{TurnOptions}
use Rattle.s10_jobs.specs.Questions.{IsPeerText}
use Rattle.s10_jobs.specs.Lines.{refused_line}
use Rattle.s10_jobs.specs.Words.{open_fault_words}
use Rattle.s10_jobs.specs.declared.reporting.Report.{Report}
use Rattle.s10_jobs.specs.declared.reporting.Report.TheVariants.{Issues}
use Rattle.s10_jobs.specs.declared.report_kind.ReportKind.{ReportKind}
use Rattle.s10_jobs.specs.declared.report_kind.ReportKind.TheVariants.{Issues as OfIssues}
use Rattle.s10_host.specs.Audited.{HasFound, HoldsAudited, audit_line, audit_status}
use Rattle.s10_jobs.specs.Reporting.{IsOfIssues, report_lines, report_on, PrintsReport}
use Rattle.s10_reports.specs.declared.issues_report.IssuesReport.{IssuesReport}
use Rattle.s10_jobs.specs.Days.{IsTaken}
use Rattle.s10_host.specs.declared.loop_resources.LoopResources.{LoopResources}
use Rattle.s10_host.specs.Closing.{ServesOver, TurnsUntil}
use Rattle.s10_host.specs.LoopRun.{HasRunLoop}
use Rattle.s10_host.specs.Files.{FileConnection, FileLedger, WhereClean, IsFoundIn, Copies}
use Rattle.s10_host.specs.Files.{IsEmptyBook, IsFoundBook, ClosesInto, LeavesClean, IsFileFault}
use Rattle.s10_host.specs.Files.{IsAbsenceOr, IsNotMade, IsNotOpened, HoldsRefused, AreFilesOf}
use Rattle.s10_host.specs.Files.{IsReadFrom}
use Rattle.s10_statements.specs.Creating.{IsCreateRefusal}
use Rattle.s10_ledger.specs.Refusals.{IsOpeningRefusal}

-- The line of a fault of the ledger.
abbrev pub ledger_line : OpenFault → List ℕ
ledger_line fault = line_of (codes "ledger") (open_fault_words fault)

-- The job failed by such a fault of the ledger, and the line names it.
abbrev pub FailsByLedger : (OpenFault → Type 0) → Option (List ℕ) → Option (List ℕ) → JobStatus
    → Type 0
FailsByLedger IsFault old new status = (status ≡ Failed) × (fault : OpenFault) × IsFault fault
    × Appends old new (ledger_line fault)

-- The job was done, and then the ledger could not be closed, or its pending calls could not be
-- committed.
abbrev pub FailsByClosing : Result JobStatus WriteFault → Option (List ℕ) → Option (List ℕ)
    → Result JobStatus WriteFault → Type 0
FailsByClosing done between new result =
    IfOk result (λ status. IsOk done × FailsByLedger (λ fault. fault ≡ Store) between new status)

-- A job ends as it was done if all calls are committed. Otherwise the line `ledger store` says that
-- they are not.
abbrev pub EndsAs : Result (Unit {0}) BookFault → Result JobStatus WriteFault → Option (List ℕ)
    → Option (List ℕ) → Result JobStatus WriteFault → Type 0
EndsAs (Ok _) done between new result = (result ≡ done) × (new ≡ between)
EndsAs (Err fault) done between new result = FailsByClosing done between new result

-- How the files of a ledger were closed after a job that ended with `done`, and how it ended then.
pub record HasClosed {D : Type 0} {g : disk.Ghosts D} (closed : FileConnection g)
    (committed : Result (Unit {0}) BookFault) (done : Result JobStatus WriteFault)
    (between new : Option (List ℕ)) (result : Result JobStatus WriteFault)
    (files : Option (Files D)) : Type 0 where
  pub kept : IfSome files (λ f. Copies closed f × EndsAs committed done between new result)
  pub lost : files ≡ None → FailsByClosing done between new result

-- The report is the one asked for: that of the issues, or another one on the given day or, if none is
-- given, on the first day that the source gave.
pub record IsAskedFor {C : Type 0} (gives : C → Option ℕ → C → Type 0) (kind : ReportKind)
    (day : Option ℕ) (begun ended : C) (report : Report) : Type 0 where
  pub issues : (asked : IssuesReport) → kind ≡ OfIssues asked → (report ≡ Issues asked)
      × (ended ≡ begun)
  pub dated : ¬ IsOfIssues kind → (d : ℕ) × (report ≡ report_on kind d)
      × IsTaken gives day (Some d) begun ended

-- The calls of a loop were made on the given day or, if none is given, on the first day that the
-- source gave. Or it gave no day, and nothing was bound.
abbrev pub IsRunOn : {C : Type 0} → (C → Option ℕ → C → Type 0) → Option ℕ → C → C
    → Option (List ℕ) → Option (List ℕ) → Result JobStatus WriteFault → Option LoopResources
    → Type 0
IsRunOn gives day begun ended old new result looped =
    ((d : ℕ) × IsTaken gives day (Some d) begun ended × HasRunLoop d old new result looped)
    ⊎ (IsTaken gives day None begun ended × (looped ≡ None)
    × IfOk result (λ status. (status ≡ Failed) × Appends old new (codes "clock\n")))

-- `held` is what the files of the ledger held at first.
module _ {D : Type 0} (g : disk.Ghosts D) (held : Image) where
  -- The database in the files is refused for such a reason, and the line says for which. The files
  -- hold what they held, if both kept what was written.
  pub record IsRefusedIn (Refuses : OpenFault → Database → Type 0) (old new : Option (List ℕ))
      (result : Result JobStatus WriteFault) (files : Files D) : Type 0 where
    pub fault : OpenFault
    pub printed : IfOk result (λ status. (status ≡ Failed) × Appends old new (ledger_line fault))
    pub kept : AreClean g files.log files.db
        → (was : FileConnection g) × IsReadFrom held was
        × HoldsRefused was (Refuses fault) files

  -- An empty ledger with these settings was created, and closed in these files.
  pub record HasMadeLedger (terms : Terms) (files : Files D) : Type 0 where
    pub book : FileLedger g
    pub settings : book.terms ≡ terms
    pub empty : WhereClean (IsEmptyBook held) book
    pub closes_into : ClosesInto book [] files

  -- A ledger was created, and only then `created` was printed. Or the line says why there is none.
  pub record HasCreated (terms : Terms) (old new : Option (List ℕ))
      (result : Result JobStatus WriteFault) (files : Option (Files D)) : Type 0 where
    pub closed : IfSome files (λ f. (HasMadeLedger terms f × IfOk result (λ status. (status ≡ Done)
        × Appends old new (codes "created\n")))
        ⊎ IsRefusedIn (λ fault db. IsCreateRefusal db.schema fault) old new result f)
    pub refused : files ≡ None → IfOk result (FailsByLedger (IsNotMade g held) old new)

  -- How the service of a ledger ended, and which calls its files hold: all calls, or the committed
  -- ones if the line says that the others could not be committed.
  abbrev pub EndsServed : FileLedger g → Result JobStatus WriteFault → Option (List ℕ)
      → Option (List ℕ) → Result JobStatus WriteFault → Files D → Type 0
  EndsServed served turned between new result files =
      ((result ≡ turned) × (new ≡ between)
      × ClosesInto served (history_of over_files served) files)
      ⊎ (FailsByClosing turned between new result
      × ClosesInto served (committed_of over_files served) files)

  -- What a server at the address did to the ledger that it found in the files, with all that the link
  -- carried. If the closed files kept what was written, the ledger was honest when it was closed, and
  -- they hold all its calls, or, if the status is not `Done`, the committed ones.
  pub record ServesFiles (bind : List ℕ) (result : Result JobStatus WriteFault)
      (files : Option (Files D)) (link : BoundLink) : Type 0 where
    pub at : (at : Peer) × SpellsPeer bind at × IsBoundAt at link.at
    pub opened : FileLedger g
    pub found : WhereClean (IsFoundBook held) opened
    pub served : FileLedger g
    pub serves : ServesOver over_files opened served link
    pub closes_into : IfSome files (λ f. ClosesInto served (history_of over_files served) f
        ⊎ ((result ≢ Ok Done) × ClosesInto served (committed_of over_files served) f))

  -- The ledger was served in turns, and closed in these files, or it could not be closed.
  pub record IsServed {C : Type 0} (gives : C → Option ℕ → C → Type 0)
      (options : TurnOptions) (begun ended : C) (named : Bool) (old new : Option (List ℕ))
      (result : Result JobStatus WriteFault) (files : Option (Files D))
      (link : BoundLink) : Type 0 where
    pub opened : FileLedger g
    pub found : WhereClean (IsFoundBook held) opened
    pub served : FileLedger g
    pub turned : Result JobStatus WriteFault
    pub between : Option (List ℕ)
    pub turns : TurnsUntil over_files gives options begun ended named opened served old between turned link
    pub ends : IfSome files (EndsServed served turned between new result)
    pub lost : files ≡ None → FailsByClosing turned between new result

  -- The ledger was opened, and its address could not be bound.
  pub record IsUnlinked (opened : FileLedger g) (old new : Option (List ℕ))
      (result : Result JobStatus WriteFault) (files : Option (Files D)) : Type 0 where
    pub closes_into : IfSome files (ClosesInto opened (history_of over_files opened))
    pub printed : IfSome files (λ _. IfOk result (λ status. (status ≡ Failed)
        × Appends old new (line_of (codes "link") (codes "bind" ∷ []))))
    pub lost : files ≡ None
        → IfOk result (λ status. (status ≡ Failed)
        × Appends old new (line_of (codes "link") (codes "bind" ∷ []) ++ ledger_line Store))

  -- The ledger in the files cannot be opened, and the line says why. If its files are returned, they
  -- hold what they held.
  abbrev pub IsUnopened : Option (List ℕ) → Option (List ℕ) → Result JobStatus WriteFault
      → Option (Files D) → Type 0
  IsUnopened old new result None = IfOk result (FailsByLedger (IsNotOpened g held) old new)
  IsUnopened old new result (Some files) =
      IsRefusedIn (λ fault db. IsOpeningRefusal db fault) old new result files

  -- Why there is no link, in this order: the address does not read, the file that ends the turns is
  -- there, the ledger cannot be opened, the address cannot be bound.
  abbrev pub HasNoLink : List ℕ → Bool → Option (List ℕ) → Option (List ℕ) → Result JobStatus WriteFault
      → Option (Files D) → Type 0
  HasNoLink bind named old new result files =
      ((¬ IsPeerText bind) × (files ≡ None) × IfOk result (λ status. (status ≡ Refused)
      × Appends old new (refused_line (codes "peer" ∷ []))))
      ⊎ (IsPeerText bind × (named ≡ true) × (files ≡ None) × IfOk result (λ status.
      (status ≡ Refused) × Appends old new (refused_line (codes "until" ∷ []))))
      ⊎ (IsPeerText bind × IsUnopened old new result files)
      ⊎ (IsPeerText bind × (opened : FileLedger g) × WhereClean (IsFoundBook held)
      opened × IsUnlinked opened old new result files)

  -- The ledger in the files was served at the address, in turns. Or there is no link, and the line
  -- says why.
  pub record HasServed {C : Type 0} (gives : C → Option ℕ → C → Type 0) (bind : List ℕ)
      (options : TurnOptions) (begun ended : C) (named : Bool) (old new : Option (List ℕ))
      (result : Result JobStatus WriteFault) (files : Option (Files D))
      (link : Option BoundLink) : Type 0 where
    pub served : IfSome link (ServesFiles bind result files)
    pub turns : IfSome link (IsServed gives options begun ended named old new result files)
    pub unlinked : link ≡ None → HasNoLink bind named old new result files

  -- The report of the ledger's history was printed, unless the book or the writer failed.
  abbrev pub Writes : Report → FileLedger g → FileLedger g → Option (List ℕ)
      → Option (List ℕ) → Result JobStatus WriteFault → Type 0
  Writes report opened reported old new result =
      IsHonest over_files reported
      → IfOk result (PrintsReport opened.faults reported.faults old new
      (report_lines report (history_of over_files opened) opened.terms))

  -- The ledger was reported on, and closed in these files.
  pub record IsReported (opened : FileLedger g) (report : Report) (old new : Option (List ℕ))
      (result : Result JobStatus WriteFault) (files : Files D) : Type 0 where
    pub reported : FileLedger g
    pub written : Writes report opened reported old new result
    pub unchanged : Unchanged (λ (b : FileLedger g). history_of over_files b)
        (λ (b : FileLedger g). committed_of over_files b) (λ b. b.terms) (IsHonest over_files)
        (IsOverCleanDisk over_files) (MayFind over_files)
        opened reported
    pub closes_into : ClosesInto reported (history_of over_files reported) files

  -- The ledger was reported on, and could not be closed.
  pub record IsReportedAndLost (opened : FileLedger g) (report : Report)
      (old new : Option (List ℕ)) (result : Result JobStatus WriteFault) : Type 0 where
    pub reported : FileLedger g
    pub done : Result JobStatus WriteFault
    pub between : Option (List ℕ)
    pub written : Writes report opened reported old between done
    pub printed : FailsByClosing done between new result

  -- The ledger was opened from the files, and the report was printed.
  abbrev pub IsReportOf : Report → Option (List ℕ) → Option (List ℕ)
      → Result JobStatus WriteFault → Option (Files D) → Type 0
  IsReportOf report old new result files =
      (opened : FileLedger g) × WhereClean (IsFoundBook held) opened
      × IfSome files (IsReported opened report old new result)
      × (files ≡ None → IsReportedAndLost opened report old new result)

  -- The report asked for was printed. Or the line says why there is none, in this order: no day was
  -- given and the source gave none, or the ledger cannot be opened.
  abbrev pub HasReported : {C : Type 0} → (C → Option ℕ → C → Type 0) → ReportKind → Option ℕ → C
      → C
      → Option (List ℕ) → Option (List ℕ) → Result JobStatus WriteFault
      → Option (Files D) → Type 0
  HasReported gives kind day begun ended old new result files =
      (¬ IsOfIssues kind × IsTaken gives day None begun ended × (files ≡ None)
      × IfOk result (λ status. (status ≡ Failed) × Appends old new (codes "clock\n")))
      ⊎ ((report : Report) × IsAskedFor gives kind day begun ended report
      × (IsUnopened old new result files ⊎ IsReportOf report old new result files))

  -- The ledger in the files was audited, the finding was printed, and the files were closed as they
  -- are, without a write. They hold what they held, if both kept what was written.
  pub record IsAudited (old new : Option (List ℕ)) (result : Result JobStatus WriteFault)
      (files : Files D) : Type 0 where
    pub opened : FileConnection g
    pub found : IsFoundIn held opened
    pub left : FileConnection g
    pub finding : Result ℕ OpenFault
    pub counted : HasFound over_files opened left finding
    pub written : IfOk result (λ status. (status ≡ audit_status finding)
        × Appends old new (audit_line finding))
    pub leaves : LeavesClean left files
    pub of : AreFilesOf left files
    pub kept : AreClean g files.log files.db
        → IsReadFrom held opened × HoldsAudited opened left finding files

  -- The ledger was audited, or the line says why the files could not be opened.
  pub record HasAudited (old new : Option (List ℕ)) (result : Result JobStatus WriteFault)
      (files : Option (Files D)) : Type 0 where
    pub audited : IfSome files (IsAudited old new result)
    pub refused : files ≡ None → IfOk result (FailsByLedger (IsAbsenceOr IsFileFault) old new)
