-- How a job ends, and what it prints.
use denote.RattleType.{RattleType}
use Rattle.std.proofs.Common.{◌≡◌, ◌≢◌, ◌⊎◌, ◌∙◌, inl, inr, ℕ, Bool, List, [], ◌∷◌, Option, Some, None}
use Rattle.std.proofs.Common.{Result, Ok, Err, ap, refl, sym, subst, true, ◌++◌}
use Rattle.std.proofs.KnownBytes.{Appends-trans}
use Rattle.std.specs.Prelude.{IfOk, IfErr, IfSome, IsOk, OnErr, codes, option_map}
use Rattle.std.specs.Io.KnownBytes.{Appends}
use Rattle.sqlite_disk.specs.declared.Disk as disk
use Rattle.sqlite_disk.specs.declared.Files.{Files}
use Rattle.sqlite_disk.specs.declared.start.Start.{Ghosts}
use Rattle.sqlite_wal.specs.Recovery.{Image}
use Rattle.sqlite_store.specs.declared.store.FileStore.{FileStore}
use Rattle.sqlite.specs.Held.{Held}
use Rattle.sqlite.specs.Files.{over_files, file_state}
use Rattle.s10_lines.specs.declared.write_fault.WriteFault.{WriteFault}
use Rattle.s10_lines.specs.Lines.{line_of}
use Rattle.s10_link.specs.declared.peer.Peer.{Peer}
use Rattle.s10_link.specs.UdpLink.{BoundLink, IsBoundAt}
use Rattle.s10_history.specs.Settings.{Terms}
use Rattle.s10_book.specs.declared.book_fault.BookFault.{BookFault}
use Rattle.s10_book.specs.Book.{Unchanged}
use Rattle.s10_ledger.specs.Ledger.{IsOverCleanDisk, MayFind, IsHonest, history_of, committed_of}
use Rattle.s10_rows.specs.declared.open_fault.OpenFault.{OpenFault}
use Rattle.s10_rows.specs.declared.open_fault.OpenFault.TheVariants.{NotEmpty, Store}
use Rattle.s10_jobs.specs.declared.job_status.JobStatus.{JobStatus}
use Rattle.s10_jobs.specs.declared.job_status.JobStatus.TheVariants.{Done, Refused, Failed}
use Rattle.s10_jobs.specs.declared.turn_options.TurnOptions.{TurnOptions}
use Rattle.s10_jobs.specs.declared.job.Job.{Job}
use Rattle.s10_jobs.specs.Lines.{refused_line}
use Rattle.s10_link.specs.Peer.{SpellsPeer}
use Rattle.s10_jobs.specs.declared.reporting.Report.{Report}
use Rattle.s10_jobs.specs.declared.reporting.Report.TheVariants.{Issues}
use Rattle.s10_jobs.specs.declared.report_kind.ReportKind.{ReportKind}
use Rattle.s10_jobs.specs.declared.report_kind.ReportKind.TheVariants.{Issues as OfIssues}
use Rattle.s10_jobs.specs.Reporting.{IsOfIssues, report_on}
use Rattle.s10_reports.specs.declared.issues_report.IssuesReport.{IssuesReport}
use Rattle.s10_jobs.specs.Unbound.{IsUnbound}
use Rattle.s10_host.specs.Files.{FileConnection, FileLedger, ClosedFiles, Copies, ClosesInto}
use Rattle.s10_host.specs.Files.{IsFoundIn, IsFileFault, IsAbsenceOr, IsNotMade, IsNotOpened}
use Rattle.s10_host.specs.Files.{LeavesClean, AreFilesOf, Keeps, KeepsRefused, IsUnopenedAs}
use Rattle.s10_host.specs.Audited.{HasFound, KeepsAudited, audit_line, audit_status}
use Rattle.s10_host.specs.Closing.{IsClosedAs, ServesOver, Turns}
use Rattle.s10_host.specs.Jobs.{HasClosed, ledger_line, FailsByLedger, FailsByClosing, EndsAs, IsAskedFor}
use Rattle.s10_host.specs.Jobs.{HasMadeLedger, HasCreated, EndsServed, IsRefusedIn, IsUnopened}
use Rattle.s10_host.specs.Jobs.{IsUnlinked, Writes, IsReported, IsReportOf, HasServed}
use Rattle.s10_host.specs.Jobs.{HasReported}
use Rattle.s10_host.specs.Jobs.{HasAudited}
use Rattle.s10_host.specs.Ended.{HasEnded}
use Rattle.s10_host.specs.JobResources.{no_resources}
use Rattle.s10_host.specs.declared.job_resources.JobResources.{JobResources}
use Rattle.s10_host.specs.UntilFile.{EndsIfNamed}
use Rattle.s10_host.specs.LedgerJobs.{IsMadeWith, IsOpenedFrom, IsLeftByRefusal, IsRefusedLeft}
use Rattle.s10_host.specs.LedgerJobs.{IsReportedOn, IsUsed}
use Rattle.s10_jobs.specs.Days.{IsTaken}
use Rattle.sqlite.specs.Effect.{Database}
use Rattle.s10_statements.specs.ConnectionState.{IsOpen}
use Rattle.s10_statements.specs.Creating.{IsCreateRefusal}
use Rattle.s10_ledger.specs.Refusals.{IsOpeningRefusal}
use Rattle.s10_host.proofs.Opening.{empty_book, found_book, closed_into, still_none, calls_all}
use Rattle.s10_host.proofs.Opening.{kept_refused, shown}

-- A job without resources has no files, no link, no snapshot and no copy.
pub no_files : {F : Type 0} (used : JobResources F) → used ≡ no_resources → used.files ≡ None
no_files {F} used is = ap (λ (r : JobResources F). r.files) is

pub no_link : {F : Type 0} (used : JobResources F) → used ≡ no_resources → used.link ≡ None
no_link {F} used is = ap (λ (r : JobResources F). r.link) is

pub no_snapshot : {F : Type 0} (used : JobResources F) → used ≡ no_resources
    → used.snapshot ≡ None
no_snapshot {F} used is = ap (λ (r : JobResources F). r.snapshot) is

pub no_copy : {F : Type 0} (used : JobResources F) → used ≡ no_resources → used.copied ≡ None
no_copy {F} used is = ap (λ (r : JobResources F). r.copied) is

-- A job that failed by a fault, which was printed.
pub fails_by : (IsFault : OpenFault → Type 0) (fault : OpenFault) (old new : Option (List ℕ))
    (r : Result JobStatus WriteFault) → IsFault fault
    → IfOk r (λ status. (status ≡ Failed) × Appends old new (ledger_line fault))
    → IfOk r (FailsByLedger IsFault old new)
fails_by IsFault fault old new (Ok status) is (failed, written) = (failed, fault, is, written)
fails_by IsFault fault old new (Err e) is says = tt

-- The same for a result that is returned unchanged.
pub fails_as : (IsFault : OpenFault → Type 0) (fault : OpenFault) (old new : Option (List ℕ))
    (printed result : Result JobStatus WriteFault) → IsFault fault
    → IfOk printed (λ status. (status ≡ Failed) × Appends old new (ledger_line fault))
    → result ≡ printed → IfOk result (FailsByLedger IsFault old new)
fails_as IsFault fault old new printed result is says same =
    subst (λ r. IfOk r (FailsByLedger IsFault old new)) (sym same)
    (fails_by IsFault fault old new printed is says)

-- A fault of this kind is one of that kind.
fails_weaker : (Is Was : OpenFault → Type 0) → ((fault : OpenFault) → Is fault → Was fault)
    → (done : Result JobStatus WriteFault) (old new : Option (List ℕ))
    (r : Result JobStatus WriteFault)
    → IfOk r (λ status. IsOk done × FailsByLedger Is old new status)
    → IfOk r (FailsByLedger Was old new)
fails_weaker Is Was gives done old new (Ok status) (well, (failed, fault, is, written)) =
    (failed, fault, gives fault is, written)
fails_weaker Is Was gives done old new (Err e) says = tt

module _ {C : Type 0} (gives : C → Option ℕ → C → Type 0) (day : Option ℕ) (begun ended : C) where
  -- What was made of a day that was taken, or of none.
  abbrev pub Made : ReportKind → Option Report → Type 0
  Made kind made = (taken : Option ℕ) × IsTaken gives day taken begun ended
      × (made ≡ option_map (report_on kind) taken)

  dated_on : (kind : ReportKind) (made : Option Report) (report : Report) → made ≡ Some report
      → Made kind made
      → (d : ℕ) × (report ≡ report_on kind d) × IsTaken gives day (Some d) begun ended
  dated_on kind made report is (Some d, taken, so) = (d, cc, taken)
  dated_on kind made report is (None, taken, so) = absurd cc

  pub asked_for : (kind : ReportKind) (made : Option Report) (report : Report)
      → made ≡ Some report
      → ((asked : IssuesReport) → kind ≡ OfIssues asked → (made ≡ Some (Issues asked))
      × (ended ≡ begun))
      → (¬ IsOfIssues kind → Made kind made) → IsAskedFor gives kind day begun ended report
  asked_for kind made report is issues dated = record {
    issues = λ asked so. let one = issues asked so in (cc, one.1);
    dated = λ other. dated_on kind made report is (dated other);
  }

  no_taken : (kind : ReportKind) (made : Option Report) → made ≡ None → Made kind made
      → IsTaken gives day None begun ended
  no_taken kind made is (None, taken, so) = taken
  no_taken kind made is (Some d, taken, so) = absurd cc

  -- There is no report only if one was asked for that needs a day, and there is no day.
  pub no_report : (kind : ReportKind) (made : Option Report) → made ≡ None
      → ((asked : IssuesReport) → kind ≡ OfIssues asked → (made ≡ Some (Issues asked))
      × (ended ≡ begun))
      → (¬ IsOfIssues kind → Made kind made)
      → (¬ IsOfIssues kind) × IsTaken gives day None begun ended
  no_report kind made is issues dated =
      let other : ¬ IsOfIssues kind = λ of. let one = (issues of.0 of.1).0 in absurd cc in
      (other, no_taken kind made is (dated other))

-- If no call was pending, a job ends as it was done.
pub as_done : (committed : Result (Unit {0}) BookFault) (done result : Result JobStatus WriteFault)
    (between new : Option (List ℕ)) → OnErr committed ⊥ → EndsAs committed done between new result
    → (result ≡ done) × (new ≡ between)
as_done (Ok _) done result between new never ends = ends
as_done (Err fault) done result between new never ends = absurd never

-- A ledger that could not be closed.
pub lost_closing : {D : Type 0} (put : Result (Files D) OpenFault)
    (done result : Result JobStatus WriteFault) (new last : Option (List ℕ))
    → IfErr put (λ fault. fault ≡ Store) → (fault : OpenFault) × (put ≡ Err fault)
    × IfOk result (λ status. IsOk done × (status ≡ Failed) × Appends new last (ledger_line fault))
    → FailsByClosing done new last result
lost_closing put done (Ok status) new last store (fault, is, (well, failed, written)) =
    (well, (failed, fault, subst (λ r. IfErr r (λ fault. fault ≡ Store)) is store, written))
lost_closing put done (Err e) new last store says = tt

module _ {D : Type 0} {g : disk.Ghosts D} where
  -- A ledger that was closed, and how the job ended.
  pub kept_copied : (closed : Held (FileStore D g)) (put : Result (Files D) OpenFault)
      (files : Option (Files D)) (committed : Result (Unit {0}) BookFault)
      (done result : Result JobStatus WriteFault) (new last : Option (List ℕ))
      → IfOk put (Copies closed)
      → IfSome files (λ f. (put ≡ Ok f) × EndsAs committed done new last result)
      → IfSome files (λ f. Copies closed f × EndsAs committed done new last result)
  kept_copied closed put None committed done result new last copied kept = tt
  kept_copied closed put (Some f) committed done result new last copied (is, ends) =
      (subst (λ r. IfOk r (Copies closed)) is copied, ends)

module _ {D : Type 0} (g : disk.Ghosts D) (held : Image) where
  -- A refusal of the database in the files, from that over their connection.
  refused_in : (Refuses : OpenFault → Database → Type 0) (was : FileConnection g)
      (fault : OpenFault) (old new : Option (List ℕ)) (result : Result JobStatus WriteFault)
      (f : Files D) → IsFoundIn held was
      → IfOk result (λ status. (status ≡ Failed) × Appends old new (ledger_line fault))
      → KeepsRefused was (Refuses fault) f → IsRefusedIn g held Refuses old new result f
  refused_in Refuses was fault old new result f found printed kept = record {
    fault = fault;
    printed = printed;
    kept = λ clean. let holds = kept clean in (was, found holds.sound, holds);
  }

  -- A ledger that could not be closed was not created.
  not_lost : {A : Type 0} (done result : Result JobStatus WriteFault) (old new : Option (List ℕ))
      → result ≡ Ok Done → FailsByClosing done old new result → A
  not_lost done (Ok status) old new is says = absurd (let one = says.1.0 in cc)
  not_lost done (Err fault) old new is says = absurd cc

  -- A ledger that was created and closed, after which `created` was printed.
  pub created : (terms : Terms) (was : FileConnection g) (book : FileLedger g)
      (closed : FileConnection g) (committed : Result (Unit {0}) BookFault)
      (old between new : Option (List ℕ)) (done printed : Result JobStatus WriteFault)
      (files : Option (Files D)) → IsFoundIn held was → done ≡ Ok Done
      → IsMadeWith over_files terms was book → IsClosedAs over_files book closed committed
      → HasClosed closed committed (Ok Done) old between done files
      → IfOk printed (λ status. (status ≡ Done) × Appends between new (codes "created\n"))
      → HasCreated g held terms old new printed files
  created terms was book closed committed old between new done printed None found is made put ended
      written = not_lost (Ok Done) done old between is (ended.lost refl)
  created terms was book closed committed old between new done printed (Some f) found is made put
      ended written =
      let (copies, ends) = ended.kept in
      let never = put.none_pending made.none_pending in
      let (same, last) = as_done committed (Ok Done) done old between never ends in
      record {
        closed = inl (
          record {
            book = book;
            settings = made.settings;
            empty = empty_book held terms was book found made;
            closes_into = closed_into book closed committed [] f put
                (λ clean opened. calls_all over_files book closed committed put never clean opened
                ∙ made.empty (put.honest clean opened)) copies;
          },
          subst (λ text. IfOk printed (λ status. (status ≡ Done)
              × Appends text new (codes "created\n"))) last written,
        );
        refused = λ gone. absurd cc;
      }

  -- A ledger that was created, and whose files could not be closed.
  pub not_closed : (terms : Terms) (was : FileConnection g) (book : FileLedger g)
      (closed : FileConnection g) (committed : Result (Unit {0}) BookFault)
      (old new : Option (List ℕ)) (result : Result JobStatus WriteFault) (files : Option (Files D))
      → result ≢ Ok Done → IsMadeWith over_files terms was book
      → IsClosedAs over_files book closed committed
      → HasClosed closed committed (Ok Done) old new result files
      → HasCreated g held terms old new result files
  not_closed terms was book closed committed old new result (Some f) undone made put ended =
      let never = put.none_pending made.none_pending in
      absurd (undone (as_done committed (Ok Done) result old new never (ended.kept).1).0)
  not_closed terms was book closed committed old new result None undone made put ended = record {
    closed = tt;
    refused = λ _. fails_weaker (λ fault. fault ≡ Store) (IsNotMade g held)
        (λ fault is. inl (inl (inr is))) (Ok Done) old new result (ended.lost refl);
  }

  -- A database that was refused for a new ledger.
  pub not_created : (terms : Terms) (was left : FileConnection g) (fault : OpenFault)
      (old new : Option (List ℕ)) (result : Result JobStatus WriteFault) (files : Option (Files D))
      → IsFoundIn held was → IsCreateRefusal (file_state was).now.schema fault
      → IsLeftByRefusal over_files was left
      → (IsOpen over_files left → (file_state left).committed ≡ (file_state left).now)
      → IfSome files (AreFilesOf left) → IfSome files (Keeps left)
      → IfOk result (λ status. (status ≡ Failed) × Appends old new (ledger_line fault))
      → HasCreated g held terms old new result files
  not_created terms was left fault old new result None found refusal kept committed of keeps printed =
      record {
        closed = tt;
        refused = λ _. fails_by (IsNotMade g held) fault old new result
            (inr (record { was = was; found = found; refusal = refusal })) printed;
      }
  not_created terms was left fault old new result (Some f) found refusal kept committed of keeps
      printed =
      record {
        closed = inr (refused_in (λ fault db. IsCreateRefusal db.schema fault) was fault old new
            result f found printed
            (kept_refused (λ (db : Database). IsCreateRefusal db.schema fault) was left f
            (λ clean opened. refusal) kept committed of keeps));
        refused = λ gone. absurd cc;
      }

  -- A ledger whose file could not be opened.
  pub not_connected : (terms : Terms) (fault : OpenFault) (old new : Option (List ℕ))
      (printed result : Result JobStatus WriteFault) (files : Option (Files D))
      → IsUnopenedAs g held NotEmpty fault
      → IfOk printed (λ status. (status ≡ Failed) × Appends old new (ledger_line fault))
      → result ≡ printed → files ≡ None → HasCreated g held terms old new result files
  not_connected terms fault old new printed result (Some f) is says same none = absurd cc
  not_connected terms fault old new printed result None is says same none = record {
    closed = tt;
    refused = λ _. fails_by (IsNotMade g held) fault old new result (inl is)
        (subst (λ r. IfOk r (λ status. (status ≡ Failed) × Appends old new (ledger_line fault)))
        (sym same) says);
  }

  -- A file that does not exist, or is no database, is not opened.
  absent_or_refused : (old new : Option (List ℕ)) (result : Result JobStatus WriteFault)
      → IfOk result (FailsByLedger (IsAbsenceOr IsFileFault) old new)
      → IfOk result (FailsByLedger (IsNotOpened g held) old new)
  absent_or_refused old new (Ok status) (failed, fault, inl absent, written) =
      (failed, fault, inl absent, written)
  absent_or_refused old new (Ok status) (failed, fault, inr is, written) =
      (failed, fault, inr (inl is), written)
  absent_or_refused old new (Err e) printed = tt

  -- Which calls the files of a served ledger hold.
  ends_served : (served : FileLedger g) (closed : FileConnection g)
      (committed : Result (Unit {0}) BookFault) (f : Files D)
      (done result : Result JobStatus WriteFault) (new last : Option (List ℕ))
      → IsClosedAs over_files served closed committed → Copies closed f
      → EndsAs committed done new last result
      → EndsServed g held served done new last result f
  ends_served served closed (Ok u) f done result new last put copies (same, still) =
      inl (
        same,
        still,
        closed_into served closed (Ok u) (history_of over_files served) f put
            put.whole copies,
      )
  ends_served served closed (Err fault) f done result new last put copies failed =
      inr (
        failed,
        closed_into served closed (Err fault) (committed_of over_files served) f put
            put.left copies,
      )

  -- The calls that the files hold, without what was printed.
  served_into : (served : FileLedger g) (done result : Result JobStatus WriteFault)
      (new last : Option (List ℕ)) (f : Files D)
      → EndsServed g held served done new last result f
      → ClosesInto served (history_of over_files served) f
      ⊎ ((result ≢ Ok Done) × ClosesInto served (committed_of over_files served) f)
  served_into served done result new last f (inl (same, still, whole)) = inl whole
  served_into served done result new last f (inr (failed, left)) =
      inr (λ is. not_lost done result new last is failed, left)

  served_away : (served : FileLedger g) (closed : FileConnection g)
      (committed : Result (Unit {0}) BookFault) (done result : Result JobStatus WriteFault)
      (new last : Option (List ℕ)) (files : Option (Files D))
      → IsClosedAs over_files served closed committed
      → IfSome files (λ f. Copies closed f × EndsAs committed done new last result)
      → IfSome files (EndsServed g held served done new last result)
  served_away served closed committed done result new last None put kept = tt
  served_away served closed committed done result new last (Some f) put (copies, ends) =
      ends_served served closed committed f done result new last put copies ends

  all_served_into : (served : FileLedger g) (done result : Result JobStatus WriteFault)
      (new last : Option (List ℕ)) (files : Option (Files D))
      → IfSome files (EndsServed g held served done new last result)
      → IfSome files (λ f. ClosesInto served (history_of over_files served) f
      ⊎ ((result ≢ Ok Done) × ClosesInto served (committed_of over_files served) f))
  all_served_into served done result new last None ends = tt
  all_served_into served done result new last (Some f) ends =
      served_into served done result new last f ends

  unlinked_kept : (old new last : Option (List ℕ)) (done result : Result JobStatus WriteFault)
      → IfOk done (λ status. (status ≡ Failed)
      × Appends old new (line_of (codes "link") (codes "bind" ∷ []))) → result ≡ done
      → last ≡ new
      → IfOk result (λ status. (status ≡ Failed)
      × Appends old last (line_of (codes "link") (codes "bind" ∷ [])))
  unlinked_kept old new last done result printed same still =
      let Told : Result JobStatus WriteFault → Option (List ℕ) → Type 0 =
      λ r text. IfOk r (λ status. (status ≡ Failed)
      × Appends old text (line_of (codes "link") (codes "bind" ∷ []))) in
      subst (λ text. Told result text) (sym still) (subst (λ r. Told r new) (sym same) printed)

  unlinked_lost : (old new last : Option (List ℕ)) (done result : Result JobStatus WriteFault)
      → IfOk done (λ status. (status ≡ Failed)
      × Appends old new (line_of (codes "link") (codes "bind" ∷ [])))
      → IfOk result (λ status. IsOk done × FailsByLedger (λ fault. fault ≡ Store) new last status)
      → IfOk result (λ status. (status ≡ Failed)
      × Appends old last (line_of (codes "link") (codes "bind" ∷ []) ++ ledger_line Store))
  unlinked_lost old new last (Ok status) (Ok other) printed (well, (failed, fault, is, written)) = (
    failed,
    Appends-trans old new last (line_of (codes "link") (codes "bind" ∷ []))
        (ledger_line Store) printed.1 (subst (λ f. Appends new last (ledger_line f)) is written),
  )
  unlinked_lost old new last (Err e) (Ok other) printed (well, rest) = absurd (let one = well in cc)
  unlinked_lost old new last done (Err e) printed says = tt

  unlinked : (old new last : Option (List ℕ)) (opened after : FileLedger g)
      (closed : FileConnection g) (committed : Result (Unit {0}) BookFault)
      (done result : Result JobStatus WriteFault) (files : Option (Files D))
      → opened.pending ≡ [] → IsUnbound opened after old new done
      → IsClosedAs over_files after closed committed
      → IfSome files (λ f. Copies closed f × EndsAs committed done new last result)
      → (files ≡ None → FailsByClosing done new last result)
      → IsUnlinked g held opened old last result files
  unlinked old new last opened after closed committed done result None none unbound put kept lost =
      record {
        closes_into = tt;
        printed = tt;
        lost = λ none. unlinked_lost old new last done result
            unbound.1 (lost none);
      }
  unlinked old new last opened after closed committed done result (Some f) none unbound put
      (copies, ends) lost =
      let Pending : FileLedger g → Type 0 = λ b. b.pending ≡ [] in
      let never = put.none_pending (subst Pending (sym unbound.0) none) in
      let (same, still) = as_done committed done result new last never ends in
      record {
        closes_into = subst (λ b. ClosesInto b (history_of over_files b) f) unbound.0
            (closed_into after closed committed (history_of over_files after) f put
            (calls_all over_files after closed committed put never) copies);
        printed = unlinked_kept old new last done result unbound.1 same still;
        lost = λ none. absurd (let one : Some f ≡ None = none in cc);
      }

  -- A database that was refused as a ledger.
  pub refused_ledger : (was left : FileConnection g) (fault : OpenFault) (old new : Option (List ℕ))
      (result : Result JobStatus WriteFault) (files : Option (Files D)) → IsFoundIn held was
      → IsRefusedLeft over_files was left fault → IsLeftByRefusal over_files was left
      → (IsOpen over_files left → (file_state left).committed ≡ (file_state left).now)
      → IfSome files (AreFilesOf left) → IfSome files (Keeps left)
      → IfOk result (λ status. (status ≡ Failed) × Appends old new (ledger_line fault))
      → IsUnopened g held old new result files
  refused_ledger was left fault old new result None found refusal kept committed of keeps printed =
      fails_by (IsNotOpened g held) fault old new result
      (inr (inr (record { was = was; found = found; left = left; refusal = refusal }))) printed
  refused_ledger was left fault old new result (Some f) found refusal kept committed of keeps
      printed =
      refused_in (λ fault db. IsOpeningRefusal db fault) was fault old new result f found printed
      (kept_refused (λ (db : Database). IsOpeningRefusal db fault) was left f refusal kept committed
      of keeps)

  -- What a server did over a connection that was opened, and closed again.
  abbrev pub Served : {C : Type 0} → (C → Option ℕ → C → Type 0) → Peer → TurnOptions → C → C → Bool
      → Bool → Option (List ℕ) → Option (List ℕ) → Result JobStatus WriteFault → Option BoundLink
      → FileLedger g → FileLedger g → Type 0
  Served gives at options begun ended named after old new done link opened served =
      (link ≡ None → IsUnbound opened served old new done)
      × IfSome link (λ l. IsBoundAt at l.at × ServesOver over_files opened served l
      × Turns over_files gives options begun ended EndsIfNamed named after opened served old new
      done l)

  -- How the turns over existing files ended.
  pub served_over : {C : Type 0} (gives : C → Option ℕ → C → Type 0) (bind : List ℕ) (at : Peer)
      (options : TurnOptions) (begun ended : C) (named after : Bool)
      (was closed : FileConnection g) (committed : Result (Unit {0}) BookFault)
      (old between new : Option (List ℕ)) (done result : Result JobStatus WriteFault)
      (files : Option (Files D)) (link : Option BoundLink)
      → SpellsPeer bind at → IsFoundIn held was
      → IsUsed over_files (Served gives at options begun ended named after old between done link) was
      closed committed
      → HasClosed closed committed done between new result files
      → HasServed g held gives bind options begun ended named old new result files link
  served_over gives bind at options begun ended named after was closed committed old between new done
      result files None text found used away = record {
        served = tt;
        turns = tt;
        unlinked = λ _. inr (inr (inr (
          (at, text),
          used.opened,
          found_book held was used.opened (shown held was found) used.opening,
          unlinked old between new used.opened used.left closed committed done result files
              used.opening.none_pending (used.does.0 refl) used.closing away.kept away.lost,
        )));
      }
  served_over gives bind at options begun ended named after was closed committed old between new done
      result files (Some l) text found used away =
      let (_, (bound, serves, turns)) = used.does in
      let opening = found_book held was used.opened (shown held was found) used.opening in
      let ends = served_away used.left closed committed done result between new files used.closing
      away.kept in
      record {
        served = record {
          at = (at, text, bound);
          opened = used.opened;
          found = opening;
          served = used.left;
          serves = serves;
          closes_into = all_served_into used.left done result between new files ends;
        };
        turns = record {
          opened = used.opened;
          found = opening;
          served = used.left;
          turned = done;
          between = between;
          turns = (after, turns);
          ends = ends;
          lost = away.lost;
        };
        unlinked = λ none. absurd cc;
      }

  -- The same, where the file is named if one was given.
  pub named_as : {C : Type 0} (gives : C → Option ℕ → C → Type 0) (bind : List ℕ)
      (options : TurnOptions) (begun ended : C) (named given : Bool) (old new : Option (List ℕ))
      (result : Result JobStatus WriteFault) (files : Option (Files D)) (link : Option BoundLink)
      → named ≡ given → HasServed g held gives bind options begun ended named old new result files link
      → HasServed g held gives bind options begun ended given old new result files link
  named_as gives bind options begun ended named given old new result files link same served =
      subst (λ (b : Bool). HasServed g held gives bind options begun ended b old new result files
      link) same served

  -- An address that does not read.
  pub no_peer : {C : Type 0} (gives : C → Option ℕ → C → Type 0) (bind text : List ℕ)
      (options : TurnOptions) (begun ended : C) (named : Bool) (old new : Option (List ℕ))
      (printed result : Result JobStatus WriteFault) (files : Option (Files D))
      (link : Option BoundLink) (made : Option Peer)
      → made ≡ None → ((p : Peer) → SpellsPeer text p → made ≡ Some p) → text ≡ bind
      → IfOk printed (λ status. (status ≡ Refused)
      × Appends old new (refused_line (codes "peer" ∷ [])))
      → result ≡ printed → link ≡ None → files ≡ None
      → HasServed g held gives bind options begun ended named old new result files link
  no_peer gives bind text options begun ended named old new printed result files link made none read
      same says is gone no_files =
      subst (HasServed g held gives bind options begun ended named old new result files) (sym gone)
      (record {
        served = tt;
        turns = tt;
        unlinked = λ _. inl (
          λ peer. absurd
              (let some = read peer.0 (subst (λ t. SpellsPeer t peer.0) (sym same) peer.1) in
              cc),
          no_files,
          subst (λ r. IfOk r (λ status. (status ≡ Refused)
              × Appends old new (refused_line (codes "peer" ∷ [])))) (sym is) says,
        );
      })

  -- A file that ends the turns is there already.
  pub until_there : {C : Type 0} (gives : C → Option ℕ → C → Type 0) (bind : List ℕ) (at : Peer)
      (options : TurnOptions) (begun ended : C) (named : Bool) (old new : Option (List ℕ))
      (result : Result JobStatus WriteFault) (files : Option (Files D))
      (link : Option BoundLink) → SpellsPeer bind at → named ≡ true
      → IfOk result (λ status. (status ≡ Refused)
      × Appends old new (refused_line (codes "until" ∷ [])))
      → link ≡ None → files ≡ None
      → HasServed g held gives bind options begun ended named old new result files link
  until_there gives bind at options begun ended named old new result files link text is says gone
      no_files =
      subst (HasServed g held gives bind options begun ended named old new result files)
      (sym gone)
      (record {
        served = tt;
        turns = tt;
        unlinked = λ _. inr (inl ((at, text), is, no_files, says));
      })

  pub unopened : (fault : OpenFault) (old new : Option (List ℕ)) (result : Result JobStatus WriteFault)
      (files : Option (Files D)) → IsAbsenceOr IsFileFault fault
      → IfOk result (λ status. (status ≡ Failed) × Appends old new (ledger_line fault))
      → files ≡ None → IsUnopened g held old new result files
  unopened fault old new result None is says none = absent_or_refused old new result (fails_by
      (IsAbsenceOr IsFileFault) fault old new result is says)
  unopened fault old new result (Some f) is says none = absurd cc

  -- A ledger that could not be opened is not served.
  pub not_served : {C : Type 0} (gives : C → Option ℕ → C → Type 0) (bind : List ℕ) (at : Peer)
      (options : TurnOptions) (begun ended : C) (named : Bool) (old new : Option (List ℕ))
      (result : Result JobStatus WriteFault) (files : Option (Files D)) (link : Option BoundLink)
      → SpellsPeer bind at → IsUnopened g held old new result files → link ≡ None
      → HasServed g held gives bind options begun ended named old new result files link
  not_served gives bind at options begun ended named old new result files link text refused gone =
      subst (HasServed g held gives bind options begun ended named old new result files) (sym gone)
      (record {
        served = tt;
        turns = tt;
        unlinked = λ _. inr (inr (inl ((at, text), refused)));
      })

  pub no_day : {C : Type 0} (gives : C → Option ℕ → C → Type 0) (kind : ReportKind)
      (day : Option ℕ) (begun ended : C) (old new : Option (List ℕ))
      (printed result : Result JobStatus WriteFault) (files : Option (Files D))
      → (¬ IsOfIssues kind) × IsTaken gives day None begun ended
      → IfOk printed (λ status. (status ≡ Failed) × Appends old new (codes "clock\n"))
      → result ≡ printed → files ≡ None
      → HasReported g held gives kind day begun ended old new result files
  no_day gives kind day begun ended old new printed result files none says same gone = inl (
    none.0,
    none.1,
    gone,
    subst (λ r. IfOk r (λ status. (status ≡ Failed) × Appends old new (codes "clock\n")))
        (sym same) says,
  )

  reported_away : (old new last : Option (List ℕ)) (report : Report)
      (opened after : FileLedger g) (closed : FileConnection g)
      (committed : Result (Unit {0}) BookFault) (done result : Result JobStatus WriteFault)
      (files : Option (Files D)) → opened.pending ≡ []
      → Unchanged (λ (b : FileLedger g). history_of over_files b)
      (λ (b : FileLedger g). committed_of over_files b) (λ b. b.terms)
      (IsHonest over_files) (IsOverCleanDisk over_files) (MayFind over_files) opened after → Writes
      g held report opened after old new done
      → IsClosedAs over_files after closed committed
      → IfSome files (λ f. Copies closed f × EndsAs committed done new last result)
      → IfSome files (IsReported g held opened report old last result)
  reported_away old new last report opened after closed committed done result None none unchanged
      written put kept = tt
  reported_away old new last report opened after closed committed done result (Some f) none
      unchanged written put (copies, ends) =
      let never : IsHonest over_files after → OnErr committed ⊥ =
      λ h. put.none_pending (still_none over_files opened after none unchanged h) in
      record {
        reported = after;
        written = λ h.
            let (same, still) = as_done committed done result new last (never h) ends in
            subst (λ text. Writes g held report opened after old text result) (sym still)
            (subst (λ r. Writes g held report opened after old new r) (sym same) written) h;
        unchanged = unchanged;
        closes_into = closed_into after closed committed (history_of over_files after) f put
            (λ clean opened. calls_all over_files after closed committed put
            (never (put.honest clean opened)) clean opened) copies;
      }

  -- A report of a ledger that was opened, and closed again.
  pub reported_over : (report : Report) (was closed : FileConnection g)
      (committed : Result (Unit {0}) BookFault) (old between new : Option (List ℕ))
      (done result : Result JobStatus WriteFault) (files : Option (Files D)) → IsFoundIn held was
      → IsUsed over_files (IsReportedOn over_files report old between done) was closed committed
      → HasClosed closed committed done between new result files
      → IsReportOf g held report old new result files
  reported_over report was closed committed old between new done result files found used away = (
    used.opened,
    found_book held was used.opened (shown held was found) used.opening,
    reported_away old between new report used.opened used.left closed committed done result files
        used.opening.none_pending used.does.unchanged used.does.written used.closing away.kept,
    λ gone. record {
      reported = used.left;
      done = done;
      between = between;
      written = used.does.written;
      printed = away.lost gone;
    },
  )

  -- An audit that left these files.
  pub audited_in : (was left : FileConnection g) (finding : Result ℕ OpenFault)
      (old new : Option (List ℕ)) (result : Result JobStatus WriteFault)
      (files : Option (Files D)) (f : Files D)
      → files ≡ Some f → IsFoundIn held was → HasFound over_files was left finding
      → IfOk result (λ status. (status ≡ audit_status finding)
      × Appends old new (audit_line finding)) → LeavesClean left f → AreFilesOf left f
      → KeepsAudited was left finding f → HasAudited g held old new result files
  audited_in was left finding old new result files f is found counted written leaves of kept =
      subst (HasAudited g held old new result) (sym is) (record {
        audited = record {
          opened = was;
          found = found;
          left = left;
          finding = finding;
          counted = counted;
          written = written;
          leaves = leaves;
          of = of;
          kept = λ clean.
              let first = found (counted.sound (leaves clean)).0 in
              (first, kept clean first.0);
        };
        refused = λ none. absurd cc;
      })

  -- An audit of a file that could not be opened.
  pub not_audited : (fault : OpenFault) (old new : Option (List ℕ))
      (printed result : Result JobStatus WriteFault) (files : Option (Files D))
      → IsAbsenceOr IsFileFault fault
      → IfOk printed (λ status. (status ≡ Failed) × Appends old new (ledger_line fault))
      → result ≡ printed → files ≡ None → HasAudited g held old new result files
  not_audited fault old new printed result files is says same none =
      subst (HasAudited g held old new result) (sym none) (record {
        audited = tt;
        refused = λ _. fails_as (IsAbsenceOr IsFileFault) fault old new printed result is says same;
      })

module _ (S : RattleType) (first : Ghosts S.Denot) where
  -- The job that ended is the one that was matched.
  pub ended_as : {C : Type 0} (gives : C → Option ℕ → C → Type 0) (job same : Job) (begun ended : C)
      (old new : Option (List ℕ)) (result : Result JobStatus WriteFault)
      (used : JobResources (ClosedFiles S first)) → job ≡ same
      → HasEnded S first gives same begun ended old new result used
      → HasEnded S first gives job begun ended old new result used
  ended_as gives job same begun ended old new result used is did =
      subst (λ j. HasEnded S first gives j begun ended old new result used) (sym is) did
