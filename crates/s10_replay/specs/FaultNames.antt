-- Defines which faults the steps of an opening answer.
use Rattle.std.specs.Prelude.{◌≡◌, ◌+◌, List, length, Result, Ok, Err, ⊤}
use Rattle.s10_history.specs.declared.entry.Entry.{Entry}
use Rattle.s10_history.specs.Settings.{Terms}
use Rattle.s10_book.specs.declared.faults.Faults.{Faults}
use Rattle.s10_book.specs.BookFault.{MemoryRises, StoreRises}
use Rattle.s10_rows.specs.declared.open_fault.OpenFault.{OpenFault}
use Rattle.s10_rows.specs.declared.open_fault.OpenFault.TheVariants.{NotALedger, Schema, Damaged}
use Rattle.s10_rows.specs.declared.open_fault.OpenFault.TheVariants.{NotEmpty, Memory, Store}
use Rattle.s10_rows.specs.CallRow.{StoredCall}
use Rattle.s10_replay.specs.RightRows.{IsRightRow}

-- The fault says what is wrong with head.
abbrev pub IsHeadFault : OpenFault → Type 0
IsHeadFault NotALedger = ⊤
IsHeadFault (Schema n) = ⊤
IsHeadFault (Damaged k) = ⊥
IsHeadFault NotEmpty = ⊥
IsHeadFault Memory = ⊥
IsHeadFault Store = ⊥

-- The fault is why the row cannot be executed again after these calls: it is wrong, and has the next
-- arrival, or the book failed.
abbrev pub IsRowFault : Terms → List Entry → StoredCall → OpenFault → Type 0
IsRowFault t before row NotALedger = ⊥
IsRowFault t before row (Schema n) = ⊥
IsRowFault t before row (Damaged k) = (k ≡ length before + 1) × ¬ IsRightRow t before row
IsRowFault t before row NotEmpty = ⊥
IsRowFault t before row Memory = ⊤
IsRowFault t before row Store = ⊤

-- A replay that returns Memory or Store has counted one fault of its book under that name. One that
-- returns Damaged has counted none. It returns no other fault.
abbrev pub CountsReplayFault : OpenFault → Faults → Faults → Type 0
CountsReplayFault NotALedger before after = ⊥
CountsReplayFault (Schema n) before after = ⊥
CountsReplayFault (Damaged k) before after = after ≡ before
CountsReplayFault NotEmpty before after = ⊥
CountsReplayFault Memory before after = MemoryRises before after
CountsReplayFault Store before after = StoreRises before after

-- A replay that keeps all calls counts no fault.
abbrev pub CountsReplay : {T : Type 0} → Result T OpenFault → Faults → Faults → Type 0
CountsReplay (Ok _) before after = after ≡ before
CountsReplay (Err fault) before after = CountsReplayFault fault before after
