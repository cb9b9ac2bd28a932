-- What is voided after one more call.
use Rattle.std.proofs.Common.{◌≡◌, ◌∙◌, ℕ, zero, suc, ◌+◌, ◌≤◌, Bool, true, false, ◌||◌, List, []}
use Rattle.std.proofs.Common.{◌∷◌, ◌++◌, Option, Some, None, length, refl, ap, arith, length-append}
use Rattle.std.specs.List.{list_any}
use Rattle.std.specs.Option.{option_map, unwrap_or}
use Rattle.std.proofs.lemmas.Bool.{or_left, or_right}
use Rattle.std.proofs.lemmas.List.{drop_all}
use Rattle.std.proofs.lemmas.List.Folds.{list_any-append}
use Rattle.s10_core.specs.declared.id.Id.{Id}
use Rattle.s10_history.specs.declared.entry.Entry.{Entry}
use Rattle.s10_history.specs.declared.issue.Issue.{Issue}
use Rattle.s10_history.specs.declared.issuance.Issuance.{Issuance}
use Rattle.s10_history.specs.Issues.{issues_of, carried_by, last_issuance_of, last_issue_of, voids}
use Rattle.s10_history.specs.Issues.{voided_after}
use Rattle.s10_history.proofs.Push.{same_issues}

-- A test that fails adds nothing.
pub or_none : (b c : Bool) → c ≡ false → (b || (c || false)) ≡ b
or_none true c e = refl
or_none false true e = e
or_none false false e = refl

-- A call that voids nothing leaves what is voided.
pub same_voided : (arrival : ℕ) (h : List Entry) (e : Entry) (x : Id) → voids x e ≡ false
    → voided_after arrival (h ++ e ∷ []) x ≡ voided_after arrival h x
same_voided zero h e x none = list_any-append (voids x) h (e ∷ []) ∙ or_none (list_any (voids x) h)
    (voids x e) none
same_voided (suc n) [] e x none = ap (list_any (voids x)) (drop_all n [] (omega arith))
same_voided (suc n) (d ∷ h) e x none = same_voided n h e x none

-- A call that voids an identifier comes after each call before it.
pub now_voided : (arrival : ℕ) (h : List Entry) (e : Entry) (x : Id) → arrival ≤ length h
    → voids x e ≡ true → voided_after arrival (h ++ e ∷ []) x ≡ true
now_voided zero h e x le does = list_any-append (voids x) h (e ∷ [])
    ∙ or_right (list_any (voids x) h) (voids x e || false) (or_left (voids x e) false does)
now_voided (suc n) [] e x le does = absurd (omega (arith, le))
now_voided (suc n) (d ∷ h) e x le does = now_voided n h e x (omega (arith, le)) does

-- No call comes after the last one.
pub none_after : (h : List Entry) (e : Entry) (x : Id) → voided_after (1 + length h) (h ++ e ∷ []) x
    ≡ false
none_after h e x =
    ap (list_any (voids x)) (drop_all (1 + length h) (h ++ e ∷ [])
    (omega (arith, length-append h (e ∷ []))))

abbrev issue_by : List Entry → Id → Option Issuance → Option Issue
issue_by h x o =
    option_map (λ i. record {
      day = i.day;
      voided = unwrap_or (option_map (λ j. voided_after j.arrival h x) o) false;
      customer = i.customer;
      number = i.number;
    }) o

same_issue_by : (h : List Entry) (e : Entry) (x : Id) (o : Option Issuance) → voids x e ≡ false
    → issue_by (h ++ e ∷ []) x o ≡ issue_by h x o
same_issue_by h e x None none = refl
same_issue_by h e x (Some i) none =
    ap (λ (b : Bool). Some (record {
      day = i.day;
      voided = b;
      customer = i.customer;
      number = i.number;
    })) (same_voided i.arrival h e x none)

-- A call that issues nothing and does not void the identifier leaves its last issue.
pub same_last_issue : (h : List Entry) (e : Entry) (x : Id) → carried_by e.outcome ≡ []
    → voids x e ≡ false → last_issue_of (h ++ e ∷ []) x ≡ last_issue_of h x
same_last_issue h e x no_issue none =
    ap (λ (is : List Issuance). issue_by (h ++ e ∷ []) x (last_issuance_of is x))
    (same_issues h e no_issue)
    ∙ same_issue_by h e x (last_issuance_of (issues_of h) x) none
