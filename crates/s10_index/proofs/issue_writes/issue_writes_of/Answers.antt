use Rattle.std.proofs.Common.{◌≡◌, ◌+◌, ℕ, ◌∙◌, length, arith, None, Some, refl, sym, subst}
use Rattle.std.specs.Prelude.{slice_get}
use Rattle.std.proofs.lemmas.List.{length-map}
use Rattle.std.proofs.lemmas.Option.{slice_get_past, slice_get_read}
use Rattle.s10_history.specs.Issues.{carried_by, issues_at}
use Rattle.s10_book.proofs.Carried.{made_by}
use Rattle.s10_replay.proofs.IssueRows.{all_make}
use Rattle.s10_index.proofs.issue_writes.issue_writes_of.Goals as goal

pub loop-place-preserved : goal.loop-place-preserved
loop-place-preserved c h t legal follows calls call moves arrival =
    let e = c.args.entry.now in
    let place = c.loop-place.place in
    let next : c.args.arrival ≡ 1 + length h = omega (arith, arrival) in
    let P : ℕ → Type 0 = λ n. slice_get (issues_at n e) place ≡ Some c.in-Some.issuance in
    let at : slice_get (issues_at (1 + length h) e) place ≡ Some c.in-Some.issuance =
    subst P next (sym c.issue.ensures ∙ c.in-Some.is) in
    let given : slice_get c.args.moves.now place ≡ Some c.in-Some-get.next.now =
    let is = c.in-Some-get.ensures.lookup in
    slice_get_read c.args.moves.now _ place c.in-Some-get.next.now refl is.3.0 is.1 in
    c.in_ok-add_issue_writes.ensures.answer h t e place legal follows calls call at
    (moves.each place c.in-Some.issuance c.in-Some-get.next.now at given)
    (c.loop-place.invariant h t legal follows calls call moves arrival)

pub returns-clause-answer : goal.returns-clause-answer
returns-clause-answer c h t legal follows calls call moves arrival not_granted not_voided =
    let e = c.args.entry.now in
    let none : slice_get (issues_at (1 + length h) e) c.loop-place.place ≡ None =
    slice_get_past (issues_at (1 + length h) e) c.loop-place.place
    (omega (
      arith,
      c.loop-place-test.false,
      c.issued-place-end.ensures,
      length-map (carried_by e.outcome) (made_by e (1 + length h)),
    )) in
    all_make h e c.loop-place.place c.loop-place.made.ranges.items c.loop-place.made.serials.items
    not_granted not_voided none
    (c.loop-place.invariant h t legal follows calls call moves arrival)
