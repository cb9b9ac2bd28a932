use Rattle.std.proofs.Common.{◌∙◌}
use Rattle.s10_ends.proofs.batch_room.BatchRoom.clear_for.Goals as goal

pub returns-clause-exchanges : goal.returns-clause-exchanges
returns-clause-exchanges c = c.reserve_exact.ensures.items ∙ c.clear.ensures.items

pub returns-clause-turns : goal.returns-clause-turns
returns-clause-turns c = c.reserve_exact-2.ensures.items ∙ c.clear-2.ensures.items

pub returns-in_err-reserve_exact-clause-turns : goal.returns-in_err-reserve_exact-clause-turns
returns-in_err-reserve_exact-clause-turns c = c.clear-2.ensures.items
