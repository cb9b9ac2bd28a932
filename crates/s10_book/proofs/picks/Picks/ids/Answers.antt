use Rattle.std.proofs.Common.{rules}
use Rattle.s10_book.proofs.picks.Picks.ids.Goals as goal

pub returns : goal.returns
returns c = search rules
