use Rattle.std.proofs.Common.{◌≡◌, ◌<◌, ◌∙◌, ap, arith, length}
use Rattle.std.specs.Prelude.{insert, vec_len, vec_capacity}
use Rattle.std.proofs.lemmas.Bool.{cond-true}
use Rattle.s10_ranges.proofs.Leasts.{least_grown}
use Rattle.s10_ranges.proofs.block.Block.insert.Goals as goal

pub invariant_of-self : goal.invariant_of-self
invariant_of-self c =
    let old = c.self.inside.indices in
    let count : length old.items ≡ length c.args.self.now = ap length c.self.view_is in
    let room : vec_len old < vec_capacity old =
    omega (arith, c.self.invariant.0, count, c.requires.room, old.ok.0) in
    let is : c.insert.new.self.items ≡ insert old.items c.args.offset c.args.index =
    c.insert.ensures.items ∙ cond-true _ _ _ (c.insert.ensures.succeeds room) in (
      omega (arith, c.self.invariant.0, c.insert.ensures.capacity),
      rw c.lesser-self-inside.ensures
          (least_grown old.items c.insert.new.self.items c.args.offset c.args.index
          c.self.inside.least (omega (arith, count, c.requires.within)) is c.self.invariant.1),
    )
