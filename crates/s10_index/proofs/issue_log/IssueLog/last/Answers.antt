use Rattle.std.proofs.Common.{◌≡◌, ◌∙◌, Bool, Option, Some, None, length, sym, ap, ap₂}
use Rattle.std.specs.Prelude.{slice_get}
use Rattle.std.specs.Option.{option_map, option_and_then}
use Rattle.std.proofs.lemmas.Option.{none-some, same_Some}
use Rattle.s10_core.specs.declared.id.Id.{Id}
use Rattle.s10_history.specs.declared.issuance.Issuance.{Issuance}
use Rattle.s10_history.specs.Issues.{is_of, last_issuance_of, voided_after}
use Rattle.s10_index.specs.declared.last_issuance.LastIssuance.{LastIssuance}
use Rattle.s10_index.specs.LastPlace.{last_place}
use Rattle.s10_index.proofs.IssueLogs.{issue_there, issue_at_last, last_place_issue}
use Rattle.s10_index.proofs.issue_log.IssueLog.last.Goals as goal

pub returns-in_err-place : goal.returns-in_err-place
returns-in_err-place c is held voids =
    let x = c.args.id.now in
    let none : last_issuance_of is x ≡ None = sym (last_place_issue is x)
    ∙ ap (option_and_then (slice_get is)) (sym (c.place_of.ensures.answer is held)
    ∙ c.in_err-place.was) in
    let told : Issuance → LastIssuance = λ i. record {
      issuance = i;
      voided = voided_after i.arrival c.args.calls.now.items x;
    } in
    c.from_residual.ensures ∙ sym (ap (option_map told) none)

pub returns-in_err-issuance : goal.returns-in_err-issuance
returns-in_err-issuance c is held voids =
    let there = issue_there c.args.calls.now.items c.args.self.now.places.items is
    c.in_ok-place.place c.at-at.result held.places c.at-at.ensures in
    absurd (none-some there.0 (sym c.in_err-issuance.was ∙ c.issuance_at.ensures ∙ there.2))

pub returns : goal.returns
returns c is held voids =
    let x = c.args.id.now in
    let calls = c.args.calls.now.items in
    let place = c.in_ok-place.place in
    let last : last_place (is_of x) is (length is) ≡ Some place =
    sym (c.place_of.ensures.answer is held) ∙ c.in_ok-place.was in
    let i = issue_at_last is x place last in
    let there = issue_there calls c.args.self.now.places.items is place c.at-at.result held.places
    c.at-at.ensures in
    let one : i.0 ≡ there.0 = same_Some i.0 there.0 (sym i.1 ∙ there.1) in
    let made : c.in_ok-issuance.issuance ≡ i.0 = same_Some c.in_ok-issuance.issuance i.0
    (sym c.in_ok-issuance.was ∙ c.issuance_at.ensures ∙ there.2 ∙ ap Some (sym one)) in
    let voided : c.at-at.result.voided ≡ voided_after i.0.arrival calls x =
    voids place c.at-at.result i.0 c.at-at.ensures i.1
    (ap (λ (y : Id). last_place (is_of y) is (length is)) i.2 ∙ last)
    ∙ ap (voided_after i.0.arrival calls) i.2 in
    let told : Issuance → LastIssuance = λ j. record {
      issuance = j;
      voided = voided_after j.arrival calls x;
    } in
    let both : Issuance → Bool → Option LastIssuance = λ j v. Some (record {
      issuance = j;
      voided = v;
    }) in
    ap₂ both made voided ∙ sym (ap (option_map told) i.3)
