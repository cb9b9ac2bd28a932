use Rattle.std.proofs.Common.{rules}
use Rattle.s10_book.proofs.draws.free_pick.Goals as goal

pub returns-then-size-from-clause-answer : goal.returns-then-size-from-clause-answer
returns-then-size-from-clause-answer c = search rules
