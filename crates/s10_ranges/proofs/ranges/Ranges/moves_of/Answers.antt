use Rattle.std.proofs.Common.{◌≡◌, ◌<◌, ◌+◌, ◌∙◌, Vec, Global, List, length, arith, true, false}
use Rattle.std.proofs.Common.{sym, ap, subst}
use Rattle.s10_history.specs.Issues.{carried_by}
use Rattle.s10_ranges.specs.declared.mark_move.MarkMove.{MarkMove}
use Rattle.s10_ranges.proofs.Moving.{AreMovesTo, issue_there, one_more}
use Rattle.s10_ranges.proofs.ranges.Ranges.moves_of.Goals as goal
use Rattle.s10_ranges.proofs.ranges.Ranges.moves_of.Goals.{in-Some+in_ok-push, in_default}

pub loop-place-preserved : goal.loop-place-preserved
loop-place-preserved c h t legal may m =
    let e = c.args.entry.now in
    elim c.match-move_at.branch [
      | in-Some+in_ok-push w ↦
          let P : List MarkMove → Type 0 = AreMovesTo h e (c.loop-place.place + 1) in
          subst P (sym (ap (λ (v : Vec MarkMove Global). v.items) w.moves-is
          ∙ w.in_ok-push.ensures.items))
          (one_more h e c.loop-place.place c.loop-place.moves.items w.in-Some.next
          (c.loop-place.invariant h t legal may m)
          (λ i at. (w.in-Some.ensures h t i legal may m at).1))
      | in_default w ↦
          let within : c.loop-place.place < length (carried_by e.outcome) =
          omega (arith, c.loop-place-test.true, c.issued-place-end.ensures) in
          let there = issue_there e (1 + length h) c.loop-place.place within in
          let some = (c.move_at.ensures h t there.0 legal may m there.1).0 in
          let wrong : false ≡ true = rw w.in_default.is at some in
          absurd (let e = wrong in cc)
    ]
