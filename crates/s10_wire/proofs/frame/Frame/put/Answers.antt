use Rattle.std.proofs.Common.{◌++◌, ℕ, List, length, refl, ap, ◌∙◌, arith, length-append}
use Rattle.s10_wire.proofs.Room.{put_roomed}
use Rattle.s10_wire.proofs.frame.Frame.put.Goals as goal

pub invariant_of-self : goal.invariant_of-self
invariant_of-self c =
    (put_roomed 256 c.self.inside.room c.self.inside.len _ _ c.copy_from_slice.new.self
    c.args.bytes.now c.self.invariant refl (omega (
      arith,
      ap length c.self.view_is,
      c.self.invariant.long,
    )) (omega arith) c.copy_from_slice.ensures.after).0

pub returns-clause-bytes : goal.returns-clause-bytes
returns-clause-bytes c =
    (put_roomed 256 c.self.inside.room c.self.inside.len _ _ c.copy_from_slice.new.self
    c.args.bytes.now c.self.invariant refl (omega (
      arith,
      ap length c.self.view_is,
      c.self.invariant.long,
    )) (omega arith) c.copy_from_slice.ensures.after).1
    ∙ ap (λ (l : List ℕ). l ++ c.args.bytes.now) c.self.view_is

pub returns-clause-len : goal.returns-clause-len
returns-clause-len c = ap length (returns-clause-bytes c) ∙ length-append c.args.self.now
    c.args.bytes.now
