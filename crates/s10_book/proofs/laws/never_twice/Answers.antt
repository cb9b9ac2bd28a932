use Rattle.s10_book.proofs.Twice.{never_twice}
use Rattle.s10_book.proofs.laws.never_twice.Goals as goal

pub returns : goal.returns
returns c = never_twice
