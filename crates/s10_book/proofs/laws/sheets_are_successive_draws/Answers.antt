use Rattle.s10_book.proofs.Singles.{singles_many, many_singles}
use Rattle.s10_book.proofs.laws.sheets_are_successive_draws.Goals as goal

pub returns-clause-drawn : goal.returns-clause-drawn
returns-clause-drawn c = singles_many

pub returns-clause-each : goal.returns-clause-each
returns-clause-each c = many_singles
