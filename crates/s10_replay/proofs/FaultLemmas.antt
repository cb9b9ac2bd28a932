-- How the fault of a book becomes one of an opening.
use Rattle.std.proofs.Common.{◌≡◌, ◌≢◌, ◌⊎◌, inl, inr, List, refl, sym, subst, rules}
use Rattle.s10_book.specs.declared.book_fault.BookFault.{BookFault}
use Rattle.s10_book.specs.declared.book_fault.BookFault.TheVariants as book
use Rattle.s10_book.specs.declared.faults.Faults.{Faults}
use Rattle.s10_book.specs.BookFault.{CountsBookFault}
use Rattle.s10_rows.specs.declared.open_fault.OpenFault.{OpenFault}
use Rattle.s10_rows.specs.declared.open_fault.OpenFault.TheVariants.{Memory, Store}
use Rattle.s10_history.specs.declared.entry.Entry.{Entry}
use Rattle.s10_history.specs.Settings.{Terms}
use Rattle.s10_rows.specs.CallRow.{StoredCall}
use Rattle.s10_replay.specs.FaultNames.{CountsReplayFault, IsRowFault}

-- A fault that the book counted is returned under the name under which it is counted.
pub read_fault : (fault : BookFault) (result : OpenFault) (before after : Faults)
    → (fault ≡ book.Memory → result ≡ Memory) → (fault ≢ book.Memory → result ≡ Store)
    → CountsBookFault fault before after → CountsReplayFault result before after
read_fault book.Memory result before after memory store counted =
    subst (λ (f : OpenFault). CountsReplayFault f before after) (sym (memory refl)) counted
read_fault book.Store result before after memory store counted =
    subst (λ (f : OpenFault). CountsReplayFault f before after) (sym (store (search rules))) counted
read_fault book.Full result before after memory store counted = absurd counted

-- Lack of memory and a fault of the store are faults of any row.
pub row_fault : (t : Terms) (before : List Entry) (row : StoredCall) (fault : OpenFault)
    → (fault ≡ Memory) ⊎ (fault ≡ Store) → IsRowFault t before row fault
row_fault t before row fault (inl is) = subst (IsRowFault t before row) (sym is) tt
row_fault t before row fault (inr is) = subst (IsRowFault t before row) (sym is) tt
