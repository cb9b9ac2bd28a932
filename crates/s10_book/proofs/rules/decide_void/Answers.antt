use Rattle.std.proofs.Common.{rules}
use Rattle.s10_book.proofs.rules.decide_void.Goals as goal

pub returns-then-issue-clause-answer : goal.returns-then-issue-clause-answer
returns-then-issue-clause-answer g c = search rules
