use Rattle.std.proofs.Common.{rules}
use Rattle.s10_index.proofs.indexed_book.IndexedBookBook.next_range.Goals as goal

pub returns-clause-above : goal.returns-clause-above
returns-clause-above c = c.next_open_range-next.ensures.above

pub returns-clause-answer : goal.returns-clause-answer
returns-clause-answer c = search rules
