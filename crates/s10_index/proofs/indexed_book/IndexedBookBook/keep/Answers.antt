use Rattle.std.proofs.Common.{rules}
use Rattle.s10_index.proofs.indexed_book.IndexedBookBook.keep.Goals as goal

pub returns-in-Err-clause-faults : goal.returns-in-Err-clause-faults
returns-in-Err-clause-faults c = search rules
