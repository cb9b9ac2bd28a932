use Rattle.std.proofs.Common.{length, refl}
use Rattle.s10_wire.proofs.Room.{fill_roomed}
use Rattle.s10_link.proofs.packet.Packet.new.Goals as goal

pub invariant_of-result : goal.invariant_of-result
invariant_of-result c = fill_roomed 512 (length c.front-kept.result.now) c.copy_from_slice.new.self
    c.front-kept.result.now refl c.front-kept.ensures.bound c.copy_from_slice.ensures.after
