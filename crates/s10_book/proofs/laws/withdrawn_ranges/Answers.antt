use Rattle.s10_book.proofs.Withdrawn.{stays_closed, none_withdrawn, same_grants, same_voids}
use Rattle.s10_book.proofs.Withdrawn.{same_queries}
use Rattle.s10_book.proofs.laws.withdrawn_ranges.Goals as goal

pub returns-clause-closed : goal.returns-clause-closed
returns-clause-closed c = stays_closed

pub returns-clause-none_issued : goal.returns-clause-none_issued
returns-clause-none_issued c = none_withdrawn

pub returns-clause-grants : goal.returns-clause-grants
returns-clause-grants c = same_grants

pub returns-clause-voids : goal.returns-clause-voids
returns-clause-voids c = same_voids

pub returns-clause-queries : goal.returns-clause-queries
returns-clause-queries c = same_queries
