use Rattle.s10_ends.proofs.Carrying.{carried_once}
use Rattle.s10_ends.proofs.laws.traces_say_what_was_carried.Goals as goal

pub returns : goal.returns
returns c = carried_once
