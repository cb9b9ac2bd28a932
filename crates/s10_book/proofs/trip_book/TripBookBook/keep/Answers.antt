use Rattle.std.proofs.Common.{rules}
use Rattle.s10_book.proofs.trip_book.TripBookBook.keep.Goals as goal

pub returns-clause-ok : goal.returns-clause-ok
returns-clause-ok g c = search rules
