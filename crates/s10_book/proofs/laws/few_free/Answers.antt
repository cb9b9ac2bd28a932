use Rattle.s10_book.proofs.Fewer.{few_free}
use Rattle.s10_book.proofs.laws.few_free.Goals as goal

pub returns : goal.returns
returns c = few_free
