-- Defines the turns of a ledger, and when it is closed.
use Rattle.std.specs.Prelude.{◌≡◌, ℕ, Bool, List, [], length, Option, Result, OnOk, OnErr}
use Rattle.sqlite_trees.specs.declared.store.Store.{Ghosts}
use Rattle.sqlite.specs.Held.{Held, state}
use Rattle.s10_lines.specs.declared.write_fault.WriteFault.{WriteFault}
use Rattle.s10_link.specs.Link.{new_trace}
use Rattle.s10_link.specs.UdpLink.{BoundLink}
use Rattle.s10_history.specs.History.{day_of}
use Rattle.s10_book.specs.declared.book_fault.BookFault.{BookFault}
use Rattle.s10_ledger.specs.Ledger.{IsOverCleanDisk, MayFind, Ledger, IsLedger, IsHonest}
use Rattle.s10_ledger.specs.Ledger.{history_in, history_of}
use Rattle.s10_ledger.specs.Ledger.{committed_of}
use Rattle.s10_statements.specs.ConnectionState.{IsClean, IsOpen}
use Rattle.s10_jobs.specs.declared.job_status.JobStatus.{JobStatus}
use Rattle.s10_jobs.specs.declared.turn_options.TurnOptions.{TurnOptions}
use Rattle.s10_jobs.specs.Serving.{ServesLink, ServesTurns}
use Rattle.s10_host.specs.UntilFile.{EndsIfNamed}

module _ {S : Type 0} (g : Ghosts S) where
  -- The ledger was closed with this connection. The result says whether all calls were committed.
  -- If the disk is clean and the connection open, what it shows is committed and is the ledger of
  -- the committed calls. If no call was pending, the connection is unchanged.
  pub record IsClosedAs (book : Ledger S) (closed : Held S)
      (commit_result : Result (Unit {0}) BookFault) : Type 0 where
    pub committed : IsClean g closed → IsOpen g closed → (state g closed).committed
        ≡ (state g closed).now
    pub ledger : IsClean g closed → IsOpen g closed → let db = (state g closed).now in
        IsLedger db book.terms (length (history_in db)) (day_of (history_in db))
    pub honest : IsClean g closed → IsOpen g closed → IsHonest g book
    pub whole : IsClean g closed → IsOpen g closed → OnOk commit_result (history_in (state g
        closed).now
        ≡ history_of g book)
    pub left : IsClean g closed → IsOpen g closed → OnErr commit_result (history_in (state g
        closed).now
        ≡ committed_of g book)
    pub same : book.pending ≡ [] → closed ≡ book.conn
    pub none_pending : book.pending ≡ [] → OnErr commit_result ⊥

  -- What a server did to a ledger with all that a new link carried.
  abbrev pub ServesOver : Ledger S → Ledger S → BoundLink → Type 0
  ServesOver opened served link = ServesLink (IsHonest g) (λ b. b.terms) (history_of g)
      (committed_of g) (new_trace, opened) (link.trace, served)

  -- The turns of these options on a new link, on the given day or on those of a source, and their
  -- lines.
  abbrev pub Turns : {C E : Type 0} → (C → Option ℕ → C → Type 0) → TurnOptions → C → C
      → (E → Bool → E → Type 0) → E → E → Ledger S → Ledger S → Option (List ℕ) → Option (List ℕ) → Result JobStatus WriteFault → BoundLink
      → Type 0
  Turns gives options first last says begun ended opened served old new result link =
      ServesTurns (λ (b : Ledger S). b.faults) (IsHonest g) (λ b. b.terms) (history_of g)
      (committed_of g) (IsOverCleanDisk g) (MayFind g) gives options says
      (new_trace, opened) (link.trace, served) first last begun ended old new result

  -- The same, where the turns may end before their count only if a file is named that ends them.
  abbrev pub TurnsUntil : {C : Type 0} → (C → Option ℕ → C → Type 0) → TurnOptions → C → C → Bool
      → Ledger S → Ledger S → Option (List ℕ) → Option (List ℕ) → Result JobStatus WriteFault
      → BoundLink → Type 0
  TurnsUntil gives options first last named opened served old new result link =
      (after : Bool)
      × Turns gives options first last EndsIfNamed named after opened served old new result link
