use Rattle.std.proofs.Common.{rules}
use Rattle.s10_book.proofs.faults.Faults.add.Goals as goal

pub returns-in-Memory : goal.returns-in-Memory
returns-in-Memory c = search rules
