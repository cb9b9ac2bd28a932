-- What an outcome or a fault does to the book's counts of faults.
use Rattle.std.specs.Prelude.{◌≡◌, Result, Ok, Err}
use Rattle.s10_book.specs.declared.book_fault.BookFault.{BookFault}
use Rattle.s10_book.specs.declared.faults.Faults.{Faults}
use Rattle.s10_book.specs.BookFault.{CountsFault}

-- An outcome leaves the counts unchanged. A fault counts as that fault, and `Full` as none.
abbrev pub CountsFull : {T : Type 0} → Result T BookFault → Faults → Faults → Type 0
CountsFull (Ok _) before after = after ≡ before
CountsFull (Err fault) before after = CountsFault fault before after
