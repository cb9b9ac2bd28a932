use Rattle.s10_book.proofs.Marks.{pick_new, pick_turned, pick_drawn, pick_left}
use Rattle.s10_book.proofs.Singles.{pick_singles}
use Rattle.s10_book.proofs.laws.successive_picks.Goals as goal

pub returns-clause-made : goal.returns-clause-made
returns-clause-made c = pick_new

pub returns-clause-drawn : goal.returns-clause-drawn
returns-clause-drawn c = pick_drawn

pub returns-clause-left : goal.returns-clause-left
returns-clause-left c = pick_left

pub returns-clause-turned : goal.returns-clause-turned
returns-clause-turned c = pick_turned

pub returns-clause-drawn_many : goal.returns-clause-drawn_many
returns-clause-drawn_many c = pick_singles
