use Rattle.std.proofs.Common.{◌≡◌, ◌∙◌, ◌<◌, ◌≤◌, ◌+◌, ◌++◌, ◌∷◌, [], ℕ, List, Some, length, sym, ap, ap₂}
use Rattle.std.proofs.Common.{subst, arith, append-nil, false}
use Rattle.std.specs.Prelude.{slice_get}
use Rattle.s10_history.specs.declared.entry.Entry.{Entry}
use Rattle.s10_history.specs.declared.issuance.Issuance.{Issuance}
use Rattle.s10_history.specs.Issues.{issues_of, issues_at, carried_by, voided_after}
use Rattle.s10_history.proofs.Voided.{none_after}
use Rattle.s10_book.proofs.Carrying.{issues_upto, upto_all, issue_within}
use Rattle.s10_index.specs.CallLog.{issuance_at}
use Rattle.s10_index.specs.IssueLog.{HoldsIssues, HasVoids, HaveIds}
use Rattle.s10_index.specs.declared.issue_log.IssueLog.{IssueLog}
use Rattle.s10_index.proofs.Identifiers.{one_more, ids_more}
use Rattle.s10_index.proofs.IssueLogs.{last_call_issue}
use Rattle.s10_index.proofs.issue_log.IssueLog.record_issues.Goals as goal
use Rattle.s10_index.proofs.issue_log.IssueLog.record_issues.Goals.{in-Some, in_default}

-- The issuance is at the last of the calls.
at_last : (h calls : List Entry) (e : Entry) (call k : ℕ) (y : Issuance) → calls ≡ h ++ e ∷ []
    → call ≡ length h → slice_get (issues_at (1 + length h) e) k ≡ Some y
    → issuance_at calls call k ≡ Some y
at_last h calls e call k y grown last is =
    let next : length h + 1 ≡ 1 + length h = omega arith in
    ap₂ (λ (l : List Entry) (n : ℕ). issuance_at l n k) grown last
    ∙ last_call_issue h e k
    ∙ ap (λ (n : ℕ). slice_get (issues_at n e) k) next ∙ is

-- No Void comes after it.
unvoided : (h calls : List Entry) (e : Entry) (y : Issuance) → calls ≡ h ++ e ∷ []
    → y.arrival ≡ 1 + length h → voided_after y.arrival calls y.id ≡ false
unvoided h calls e y grown at =
    ap₂ (λ (n : ℕ) (l : List Entry). voided_after n l y.id) at grown ∙ none_after h e y.id

pub loop-at-preserved : goal.loop-at-preserved
loop-at-preserved c =
    let e = c.args.entry.now in
    let calls = c.args.calls.now.items in
    let k = c.loop-at.at in
    elim c.match-issue.branch [
      | in-Some w ↦
          let i = w.in-Some.issuance in
          let at : slice_get (issues_at 0 e) k ≡ Some i = sym c.issue.ensures ∙ w.in-Some.is in
          record {
            places = omega (
              arith,
              c.loop-at.invariant.places,
              w.record_issue.ensures.places_room,
              ap (λ (log : IssueLog). log.places.room) w.self-is,
            );
            chains = omega (
              arith,
              c.loop-at.invariant.chains,
              w.record_issue.ensures.chains_room,
              ap (λ (log : IssueLog). log.chains.room) w.self-is,
            );
            held = λ h grown last before.
                let next = one_more h e k i at in
                let more : List Issuance = issues_upto h e (k + 1) in
                subst (λ (log : IssueLog). HoldsIssues c.args.seed.now log calls more) (sym w.self-is)
                (subst (HoldsIssues c.args.seed.now w.record_issue.new.self calls) (sym next.2)
                (w.record_issue.ensures.held (issues_upto h e k) next.0 next.1
                (at_last h calls e c.args.call k next.0 grown last next.4)
                (c.loop-at.invariant.held h grown last before)));
            voids = λ h grown last before voided.
                let next = one_more h e k i at in
                let more : List Issuance = issues_upto h e (k + 1) in
                subst (λ (log : IssueLog). HasVoids log.places.items calls more) (sym w.self-is)
                (subst (HasVoids w.record_issue.new.self.places.items calls) (sym next.2)
                (w.record_issue.ensures.voids (issues_upto h e k) next.0 next.1
                (unvoided h calls e next.0 grown next.3)
                (c.loop-at.invariant.held h grown last before)
                (c.loop-at.invariant.voids h grown last before voided)));
            ids = λ h before. ids_more h e k i at w.record_issue.ensures.parts
                (c.loop-at.invariant.ids h before);
          }
      | in_default w ↦
          let within : k < length (carried_by e.outcome) = omega (
            arith,
            c.loop-at-test.true,
            c.issued_by-at-end.ensures,
          ) in
          absurd (issue_within e 0 k within (sym c.issue.ensures ∙ w.in_default.is))
    ]

pub returns-clause-held : goal.returns-clause-held
returns-clause-held c h grown last before =
    let e = c.args.entry.now in
    let past : length (carried_by e.outcome) ≤ c.loop-at.at =
    omega (arith, c.loop-at-test.false, c.issued_by-at-end.ensures) in
    subst (HoldsIssues c.args.seed.now c.loop-at.self c.args.calls.now.items)
    (upto_all h e c.loop-at.at past) (c.loop-at.invariant.held h grown last before)

pub returns-clause-voids : goal.returns-clause-voids
returns-clause-voids c h grown last before voided =
    let e = c.args.entry.now in
    let past : length (carried_by e.outcome) ≤ c.loop-at.at =
    omega (arith, c.loop-at-test.false, c.issued_by-at-end.ensures) in
    subst (HasVoids c.loop-at.self.places.items c.args.calls.now.items)
    (upto_all h e c.loop-at.at past) (c.loop-at.invariant.voids h grown last before voided)

pub returns-clause-ids : goal.returns-clause-ids
returns-clause-ids c h before =
    let e = c.args.entry.now in
    let past : length (carried_by e.outcome) ≤ c.loop-at.at =
    omega (arith, c.loop-at-test.false, c.issued_by-at-end.ensures) in
    subst HaveIds (upto_all h e c.loop-at.at past) (c.loop-at.invariant.ids h before)

pub loop-at-init : goal.loop-at-init
loop-at-init c =
    let e = c.args.entry.now in
    record {
      places = omega (arith, c.requires.room.places);
      chains = omega (arith, c.requires.room.chains);
      held = λ h grown last before. subst (HoldsIssues c.args.seed.now c.args.self.now
          c.args.calls.now.items) (sym (append-nil (issues_of h))) before;
      voids = λ h grown last before voided. subst (HasVoids c.args.self.now.places.items
          c.args.calls.now.items) (sym (append-nil (issues_of h))) voided;
      ids = λ h before. subst HaveIds (sym (append-nil (issues_of h))) before;
    }
