use Rattle.std.proofs.Common.{rules}
use Rattle.s10_index.proofs.indexed_book.IndexedBookBook.closed.Goals as goal

pub returns-clause-answer : goal.returns-clause-answer
returns-clause-answer c = search rules
