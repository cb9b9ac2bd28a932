use Rattle.std.proofs.Common.{◌∙◌, sym, ap}
use Rattle.s10_wire.specs.declared.outcome.Outcome.{Outcome}
use Rattle.s10_history.specs.History.{range_of_grant}
use Rattle.s10_ranges.proofs.Following.{grant_mirrors, other_mirrors}
use Rattle.s10_ranges.proofs.ranges.Ranges.follow_made.Goals as goal

pub returns-in-Some-clause-made : goal.returns-in-Some-clause-made
returns-in-Some-clause-made c h t legal may few moves m =
    let made = ap (λ (o : Outcome). range_of_grant c.in-Granted.num c.args.entry.now.request.body o)
    (sym c.in-Granted.is) ∙ sym c.in-Some.ensures in
    grant_mirrors c.args.self.now c.push_next.new.self h t c.args.entry.now c.in-Granted.num
    c.in-Some.range legal may few m c.in-Granted.is made c.push_next.ensures.next

pub returns-in_default-clause-made : goal.returns-in_default-clause-made
returns-in_default-clause-made c h t legal may few moves m = other_mirrors c.apply_moves.new.self h
    c.args.entry.now c.in_default.not-Granted (c.apply_moves.ensures.marks h t c.args.entry.now
    legal may moves m)
