-- Why a statement failed, and the fault that a book or an opening answers for it.
use Rattle.std.specs.Prelude.{◌≡◌, ◌↔◌, ◌⊎◌, Option, Some}
use Rattle.sqlite.specs.declared.error.ErrorCode.TheVariants as code
use Rattle.sqlite.specs.declared.error.Error.{Error}
use Rattle.sqlite.specs.declared.error.Error.TheVariants.{SqliteFailure}
use Rattle.s10_book.specs.declared.book_fault.BookFault.{BookFault}
use Rattle.s10_book.specs.declared.book_fault.BookFault.TheVariants as fault
use Rattle.s10_rows.specs.declared.open_fault.OpenFault.{OpenFault}
use Rattle.s10_rows.specs.declared.open_fault.OpenFault.TheVariants as opening

-- The error is the last failure. The fault is Memory exactly if the error is lack of memory.
abbrev pub IsReasonFor : Option Error → BookFault → Type 0
IsReasonFor last answered = (error : Error) × (last ≡ Some error)
    × ((answered ≡ fault.Memory) ↔ (error ≡ SqliteFailure code.OutOfMemory))

-- The fault of an opening that this error of a statement ended: Memory exactly if the error is lack
-- of memory, and otherwise Store.
abbrev pub IsFaultOf : Error → OpenFault → Type 0
IsFaultOf error answered = ((answered ≡ opening.Memory) ⊎ (answered ≡ opening.Store))
    × ((answered ≡ opening.Memory) ↔ (error ≡ SqliteFailure code.OutOfMemory))
