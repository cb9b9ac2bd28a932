use Rattle.std.proofs.Common.{◌≡◌, ◌≤◌, ◌++◌, ◌∷◌, [], List, length, sym, ap, subst}
use Rattle.std.specs.Prelude.{All}
use Rattle.std.proofs.lemmas.List.Elements.{All-weaker}
use Rattle.s10_history.specs.declared.entry.Entry.{Entry}
use Rattle.s10_history.specs.declared.issuance.Issuance.{Issuance}
use Rattle.s10_history.specs.Settings.{Terms}
use Rattle.s10_history.specs.Issues.{issues_of, carried_by}
use Rattle.s10_history.proofs.Push.{same_issues}
use Rattle.s10_book.specs.Rules.{IsLegal}
use Rattle.s10_book.proofs.Own.{IsOwned, owned}
use Rattle.s10_ranges.specs.declared.hash_seed.HashSeed.{HashSeed}
use Rattle.s10_index.specs.declared.issue_log.IssueLog.{IssueLog}
use Rattle.s10_index.specs.IssueLog.{HoldsIssues, HasVoids, HaveIds}
use Rattle.s10_index.proofs.IssueLogs.{places_kept, voids_kept}
use Rattle.s10_index.proofs.Recording.{none_voided}
use Rattle.s10_index.proofs.issue_log.IssueLog.record_call.Goals as goal

-- The issuances of the calls before are held over one more call.
held_over : (seed : HashSeed) (log : IssueLog) (h calls : List Entry) (e : Entry)
    → calls ≡ h ++ e ∷ [] → HoldsIssues seed log h (issues_of h)
    → HoldsIssues seed log calls (issues_of h)
held_over seed log h calls e grown held =
    subst (λ (l : List Entry). HoldsIssues seed log l (issues_of h)) (sym grown) (record {
      places = places_kept h e log.places.items (issues_of h) held.places;
      hashes = held.hashes;
      count = held.count;
    })

earlier : (h : List Entry) (t : Terms) → IsLegal h t → All (λ i. i.arrival ≤ length h) (issues_of h)
earlier h t legal =
    All-weaker (IsOwned h) (λ (i : Issuance). i.arrival ≤ length h) (λ i own. own.1) (issues_of h)
    (owned h t legal)

pub returns-in-Void-clause-issues : goal.returns-in-Void-clause-issues
returns-in-Void-clause-issues c h t legal grown last was =
    let seed = c.args.seed.now in
    let e = c.args.entry.now in
    let log = c.record_void.new.self in
    let calls = c.args.calls.now.items in
    let before = held_over seed c.args.self.now h calls e grown was.held in
    let none = same_issues h e (ap carried_by c.in-Voided.is) in
    record {
      held = subst (HoldsIssues seed log (h ++ e ∷ [])) (sym none)
          (subst (λ (l : List Entry). HoldsIssues seed log l (issues_of h)) grown
          (c.record_void.ensures.held (issues_of h) before));
      voids = subst (HasVoids log.places.items (h ++ e ∷ [])) (sym none)
          (subst (λ (l : List Entry). HasVoids log.places.items l (issues_of h)) grown
          (c.record_void.ensures.voids h e (issues_of h) grown c.in-Void.is c.in-Voided.is
          (earlier h t legal) before was.voids));
    }

pub returns-in-Void-clause-ids : goal.returns-in-Void-clause-ids
returns-in-Void-clause-ids c h before = subst HaveIds
    (sym (same_issues h c.args.entry.now (ap carried_by c.in-Voided.is))) before

pub returns-in_default-body : goal.returns-in_default-body
returns-in_default-body c =
    let e = c.args.entry.now in
    record {
      issues = λ h t legal grown last was.
          let log = c.args.self.now in
          let none = same_issues h e (ap carried_by c.in-Voided.is) in
          record {
            held = subst (HoldsIssues c.args.seed.now log (h ++ e ∷ [])) (sym none)
                (record {
                  places = places_kept h e log.places.items (issues_of h) was.held.places;
                  hashes = was.held.hashes;
                  count = was.held.count;
                });
            voids = subst (HasVoids log.places.items (h ++ e ∷ [])) (sym none)
                (voids_kept log.places.items h e (issues_of h)
                (λ x. none_voided x e.request.body e.outcome
                (λ y asks done. c.in_default-body.not-Void y asks)) was.voids);
          };
      ids = λ h before. subst HaveIds (sym (same_issues h e (ap carried_by c.in-Voided.is))) before;
    }

pub returns-in_default : goal.returns-in_default
returns-in_default c =
    let e = c.args.entry.now in
    let seed = c.args.seed.now in
    let calls = c.args.calls.now.items in
    let log = c.record_issues.new.self in
    record {
      issues = λ h t legal grown last was.
          let before = held_over seed c.args.self.now h calls e grown was.held in
          let all : List Issuance = issues_of (h ++ e ∷ []) in
          record {
            held = subst (λ (l : List Entry). HoldsIssues seed log l all) grown
                (c.record_issues.ensures.held h grown last before);
            voids = subst (λ (l : List Entry). HasVoids log.places.items l all) grown
                (c.record_issues.ensures.voids h grown last before
                (subst (λ (l : List Entry). HasVoids c.args.self.now.places.items l (issues_of h))
                (sym grown) (voids_kept c.args.self.now.places.items h e (issues_of h)
                (λ x. none_voided x e.request.body e.outcome
                (λ y asks done. c.in_default.not-Voided done)) was.voids)));
          };
      ids = c.record_issues.ensures.ids;
    }
