-- Defines the book in which the calls of a ledger were executed again.
use Rattle.std.specs.Prelude.{◌≡◌, ◌≢◌, pos, List, Result, Err, IfOk, IfErr, ⊤}
use Rattle.s10_rows.specs.declared.head_row.HeadRow.{HeadRow}
use Rattle.s10_rows.specs.declared.open_fault.OpenFault.{OpenFault}
use Rattle.s10_rows.specs.declared.open_fault.OpenFault.TheVariants.{NotALedger, Schema, Damaged}
use Rattle.s10_rows.specs.declared.open_fault.OpenFault.TheVariants.{NotEmpty, Memory, Store}
use Rattle.s10_rows.specs.CallRow.{StoredCall}
use Rattle.s10_replay.specs.RightRows.{AreRight, kept_of}
use Rattle.s10_rows.specs.Tables.{Tables}
use Rattle.s10_replay.specs.CheckedTables.{IsHead, IsRefusal}
use Rattle.s10_index.specs.declared.indexed_book.IndexedBook.{IndexedBook}

-- The calls are right under the settings of head, and the book keeps them.
pub record IsReplayedBook (heads : List HeadRow) (calls : List StoredCall) (book : IndexedBook) :
    Type 0 where
  pub head : IsHead heads (pos 1) book.settings
  pub right : AreRight book.settings calls
  pub kept : book.index.entries.items ≡ kept_of calls

-- The calls were executed again in a book, or they are refused, but not for a fault of the store.
pub record IsReplayOf (heads : List HeadRow) (calls : List StoredCall)
    (made : Result IndexedBook OpenFault) : Type 0 where
  pub ok : IfOk made (IsReplayedBook heads calls)
  pub err : (tables : Tables) → tables.heads ≡ heads → tables.calls ≡ calls
      → IfErr made (IsRefusal tables)
  pub no_store : made ≢ Err Store

-- A replay in the process fails only at a wrong row, or for lack of memory.
abbrev pub IsReplayFault : OpenFault → Type 0
IsReplayFault NotALedger = ⊥
IsReplayFault (Schema n) = ⊥
IsReplayFault (Damaged k) = ⊤
IsReplayFault NotEmpty = ⊥
IsReplayFault Memory = ⊤
IsReplayFault Store = ⊥
