use Rattle.std.proofs.Common.{arith}
use Rattle.s10_wire.proofs.Rooms.{first_is, are_roomed}
use Rattle.s10_wire.proofs.ids.Ids.new.Goals as goal

pub invariant_of-result : goal.invariant_of-result
invariant_of-result c = are_roomed c.args.ids.now c.index-ids-0.result _ (omega arith) (omega arith)
    (first_is c.args.ids.now c.index-ids-0.result (omega arith) c.index-ids-0.is)
    c.copy_from_slice.ensures.after
