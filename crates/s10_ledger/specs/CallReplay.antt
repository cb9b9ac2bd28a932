-- Defines what a replay of calls is after it took their rows.
use Rattle.std.specs.Prelude.{◌≡◌, pos, List, [], ◌++◌, Result, Ok, Err, IfOk, IfErr}
use Rattle.s10_history.specs.Settings.{Terms}
use Rattle.s10_rows.specs.declared.open_fault.OpenFault.{OpenFault}
use Rattle.s10_rows.specs.CallRow.{StoredCall}
use Rattle.s10_rows.specs.Tables.{Tables}
use Rattle.s10_replay.specs.RightRows.{HasReplayed}
use Rattle.s10_replay.specs.CheckedTables.{IsHead, IsRefusal}
use Rattle.s10_index.specs.declared.indexed_book.IndexedBook.{IndexedBook}
use Rattle.s10_ledger.specs.declared.opening.call_replay.CallReplay.{CallReplay}
use Rattle.s10_ledger.specs.Replaying.{IsReplayFault}

-- The rows were executed again under these settings, or they are refused, also with any rows after
-- them.
pub record AreReplayed (t : Terms) (rows : List StoredCall) (made : Result IndexedBook OpenFault) :
    Type 0 where
  pub ok : IfOk made (λ book. (book.settings ≡ t) × HasReplayed t rows book.index.entries.items)
  pub err : IfErr made (λ fault. IsReplayFault fault × ((tables : Tables) (rest : List StoredCall)
      → tables.calls ≡ rows ++ rest → IsHead tables.heads (pos 1) t → IsRefusal tables fault))

-- The second replay is the first one after it took these rows. A refused one stays so. One that had
-- executed no row has executed these.
pub record HasTakenCalls (start : CallReplay) (rows : List StoredCall) (now : CallReplay) :
    Type 0 where
  pub refused : (fault : OpenFault) → start.made ≡ Err fault → now.made ≡ Err fault
  pub replayed : (book : IndexedBook) → start.made ≡ Ok book
      → AreReplayed book.settings [] start.made → AreReplayed book.settings rows now.made
