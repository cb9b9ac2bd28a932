use Rattle.std.proofs.Common.{rules}
use Rattle.s10_book.proofs.plain_book.PlainBookBook.keep.Goals as goal

pub returns-in-Ok-clause-err : goal.returns-in-Ok-clause-err
returns-in-Ok-clause-err c = search rules

pub returns-in-Err-clause-faults : goal.returns-in-Err-clause-faults
returns-in-Err-clause-faults c = search rules
