use Rattle.std.proofs.Common.{rules}
use Rattle.s10_wire.proofs.SameIds.{ids_decides}
use Rattle.s10_wire.proofs.equality.same_outcome.Goals as goal

pub returns : goal.returns
returns c = Prim.search (ids_decides, rules)
