-- Defines what a job does with a ledger over any connection, from its creation or opening to its end.
use Rattle.std.specs.Prelude.{◌≡◌, ℕ, Bool, false, List, [], Option, None, Result, IfOk, IfSome}
use Rattle.sqlite_trees.specs.declared.store.Store.{Ghosts}
use Rattle.sqlite.specs.Held.{Held, state}
use Rattle.s10_lines.specs.declared.write_fault.WriteFault.{WriteFault}
use Rattle.s10_link.specs.declared.peer.Peer.{Peer}
use Rattle.s10_link.specs.UdpLink.{BoundLink, IsBoundAt}
use Rattle.s10_history.specs.Settings.{Terms}
use Rattle.s10_book.specs.declared.book_fault.BookFault.{BookFault}
use Rattle.s10_book.specs.Book.{Unchanged}
use Rattle.s10_rows.specs.declared.open_fault.OpenFault.{OpenFault}
use Rattle.s10_schema.specs.Schema.{IsClosedSchema}
use Rattle.s10_statements.specs.ConnectionState.{IsClean, IsOpen, WasSound}
use Rattle.s10_statements.specs.Creating.{HasOneOfTheNames}
use Rattle.s10_ledger.specs.Ledger.{IsOverCleanDisk, MayFind, Ledger, IsAnyLedger, IsHonest}
use Rattle.s10_ledger.specs.Ledger.{history_in, history_of, committed_of}
use Rattle.s10_ledger.specs.Refusals.{IsOpeningRefusal}
use Rattle.s10_jobs.specs.declared.job_status.JobStatus.{JobStatus}
use Rattle.s10_jobs.specs.declared.reporting.Report.{Report}
use Rattle.s10_jobs.specs.Reporting.{report_lines, PrintsReport}
use Rattle.s10_host.specs.Closing.{IsClosedAs}

module _ {S : Type 0} (g : Ghosts S) where
  -- A ledger that was created with these settings, without calls. The connection showed none of its
  -- tables before.
  pub record IsMadeWith (terms : Terms) (was : Held S) (book : Ledger S) : Type 0 where
    pub settings : book.terms ≡ terms
    pub fresh : ¬ HasOneOfTheNames (state g was).now.schema
    pub sound : WasSound g was book.conn
    pub honest : IsClean g book.conn → IsHonest g book
    pub empty : IsHonest g book → history_of g book ≡ []
    pub none_pending : book.pending ≡ []

  -- A ledger that was opened from what a connection showed. It shows the same database, or one of
  -- an earlier build completed.
  pub record IsOpenedFrom (was : Held S) (book : Ledger S) : Type 0 where
    pub honest : IsClean g book.conn → IsHonest g book
    pub found : IsHonest g book → IsAnyLedger (state g was).now book.terms book.len book.day
    pub same : IsHonest g book → IsClosedSchema (state g was).now.schema → (state g book.conn).now
        ≡ (state g was).now
    pub history : IsHonest g book → history_of g book ≡ history_in (state g was).now
    pub sound : WasSound g was book.conn
    pub none_pending : book.pending ≡ []

  -- The database that the connection showed is refused as a ledger, if the disk is clean and the
  -- connection open.
  abbrev pub IsRefusedLeft : Held S → Held S → OpenFault → Type 0
  IsRefusedLeft was left fault = IsClean g left → IsOpen g left
      → IsOpeningRefusal (state g was).now fault

  -- A refusal leaves the connection in no transaction. If its disk is clean and it is open, it shows
  -- what it showed.
  pub record IsLeftByRefusal (was left : Held S) : Type 0 where
    pub sound : WasSound g was left
    pub idle : left.in_transaction ≡ false
    pub kept : IsClean g left → IsOpen g left → (state g left).now ≡ (state g was).now

  -- A ledger was opened from what a connection showed, this was done to it, and it was closed.
  pub record IsUsed (Does : Ledger S → Ledger S → Type 0) (was closed : Held S)
      (committed : Result (Unit {0}) BookFault) : Type 0 where
    pub opened : Ledger S
    pub opening : IsOpenedFrom was opened
    pub left : Ledger S
    pub does : Does opened left
    pub closing : IsClosedAs g left closed committed

  -- The report of a ledger was written, if it is honest afterwards. Its calls are unchanged.
  pub record IsReportedOn (report : Report) (old new : Option (List ℕ))
      (done : Result JobStatus WriteFault) (opened left : Ledger S) : Type 0 where
    pub unchanged : Unchanged (λ (b : Ledger S). history_of g b) (λ (b : Ledger S). committed_of g b)
        (λ (b : Ledger S). b.terms) (IsHonest g) (IsOverCleanDisk g) (MayFind g) opened left
    pub written : IsHonest g left → IfOk done (PrintsReport opened.faults left.faults old new
        (report_lines report (history_of g opened) opened.terms))
