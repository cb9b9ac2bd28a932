use Rattle.std.proofs.Common.{◌≤◌, ◌∙◌, List, length, arith, refl, subst}
use Rattle.std.proofs.lemmas.Option.{slice_get_read}
use Rattle.s10_history.specs.declared.issuance.Issuance.{Issuance}
use Rattle.s10_history.specs.History.{ranges_of}
use Rattle.s10_history.specs.Issues.{carried_by}
use Rattle.s10_ranges.specs.Mirror.{MirrorsAt}
use Rattle.s10_book.proofs.Carrying.{upto_all}
use Rattle.s10_ranges.proofs.Moving.{move_mirrors}
use Rattle.s10_ranges.proofs.ranges.Ranges.apply_moves.Goals as goal

pub loop-next-preserved : goal.loop-next-preserved
loop-next-preserved c = record {
  marks = λ h t e legal may all m.
      move_mirrors c.loop-next.self c.set_mark.new.self h t e c.args.moves.now
      c.loop-next.next-index c.next-item.result legal may all
      (slice_get_read c.args.moves.now (length c.args.moves.now) c.loop-next.next-index
      c.next-item.result refl c.loop-next-test.true c.next-item.is)
      c.loop-next.self.sound (c.loop-next.invariant.marks h t e legal may all m)
      c.set_mark.ensures.ranges c.set_mark.ensures.marks;
  closed = c.set_mark.ensures.closed ∙ c.loop-next.invariant.closed;
}

pub returns-clause-marks : goal.returns-clause-marks
returns-clause-marks c h t e legal may all m =
    let past : length (carried_by e.outcome) ≤ c.loop-next.next-index =
    omega (arith, c.loop-next-test.false, all.count) in
    let P : List Issuance → Type 0 = λ is. MirrorsAt (ranges_of h) is c.loop-next.self in
    subst P (upto_all h e c.loop-next.next-index past)
    (c.loop-next.invariant.marks h t e legal may all m)
