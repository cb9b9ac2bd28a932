-- Defines what a function that only reads a book does to it.
use Rattle.std.specs.Prelude.{Result}
use Rattle.s10_book.specs.declared.book.Book.{Ghosts}
use Rattle.s10_book.specs.declared.book_fault.BookFault.{BookFault}
use Rattle.s10_book.specs.Book.{Unchanged}
use Rattle.s10_book.specs.BookFault.{CountsResult}

-- The call counts its fault, if it fails, and leaves the book unchanged.
pub record Reads {B T : Type 0} (g : Ghosts B) (before after : B) (result : Result T BookFault) :
    Type 0 where
  pub faults : CountsResult result (g.faults before) (g.faults after)
  pub unchanged : Unchanged g.history g.committed g.terms g.honest g.clean g.may_find before after
