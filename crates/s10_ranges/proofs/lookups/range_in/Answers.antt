use Rattle.std.proofs.Common.{arith, sym, inl, inr}
use Rattle.s10_ranges.proofs.Found.{number_found, number_missing}
use Rattle.s10_ranges.proofs.lookups.range_in.Goals as goal
use Rattle.s10_ranges.proofs.lookups.range_in.Goals.{then-num-eq0-via-then-num-eq0}
use Rattle.s10_ranges.proofs.lookups.range_in.Goals.{then-num-eq0-via-else-num-eq0+then-num-ranges}

pub returns-then-num-eq0 : goal.returns-then-num-eq0
returns-then-num-eq0 c = sym (number_missing c.args.ranges.now c.args.num c.requires.sound
    (elim c.then-num-eq0.branch [
      | then-num-eq0-via-then-num-eq0 w ↦ inl (omega arith)
      | then-num-eq0-via-else-num-eq0+then-num-ranges w ↦ inr (omega arith)
    ]))

pub returns : goal.returns
returns c = sym (number_found c.args.ranges.now c.args.num c.index-ranges-num.result
    c.requires.sound (omega (arith, c.if-num-eq0.false)) (omega arith) (sym c.index-ranges-num.is))
