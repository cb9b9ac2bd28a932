-- What a withdrawn range gives, and what its withdrawal leaves unchanged.
use Rattle.std.proofs.Common.{◌≡◌, ℕ, ◌+◌, Bool, true, false, not, ◌||◌, cond, eqb, ltb, List, []}
use Rattle.std.proofs.Common.{◌∷◌, ◌++◌, length, Option, Some, refl, sym, ap, ap₂, ◌∙◌, subst}
use Rattle.std.specs.Prelude.{find, All, Contains, IsTrue}
use Rattle.std.specs.List.{list_any}
use Rattle.std.proofs.lemmas.Bool.{both_ways, and_parts, or_left, not-true}
use Rattle.std.proofs.lemmas.List.Elements.{All-nil, All-cons, All-contains, filter_passes}
use Rattle.std.proofs.lemmas.List.Folds.{list_any-append}
use Rattle.s10_core.specs.declared.id.Id.{Id}
use Rattle.s10_wire.specs.declared.body.Body.{Body}
use Rattle.s10_wire.specs.declared.body.Body.TheVariants.{Withdraw}
use Rattle.s10_wire.specs.declared.status.Status.TheVariants.{Unknown}
use Rattle.s10_wire.specs.declared.outcome.Outcome.{Outcome}
use Rattle.s10_wire.specs.declared.outcome.Outcome.TheVariants.{Granted, Told, Withdrawn}
use Rattle.s10_wire.specs.declared.outcome.Outcome.TheVariants.{NotThePost, BadGrant, Overlap}
use Rattle.s10_wire.specs.declared.outcome.Outcome.TheVariants.{NotYours}
use Rattle.s10_history.specs.declared.entry.Entry.{Entry}
use Rattle.s10_history.specs.declared.issue.Issue.{Issue}
use Rattle.s10_history.specs.declared.range.Range.{Range}
use Rattle.s10_history.specs.declared.issuance.Issuance.{Issuance}
use Rattle.s10_history.specs.Settings.{Terms}
use Rattle.s10_history.specs.History.{ranges_of, range_of_grant, lies_in, is_own, overlaps}
use Rattle.s10_history.specs.History.{withdraws, is_closed, is_held, is_open, ranges_open}
use Rattle.s10_history.specs.Issues.{issues_of, carried_by, last_issue_of, voids_by, id_at, pick_of}
use Rattle.s10_book.specs.Rules.{IsLegal, MayFollow, body_answer, has_free_pick, grant_answer}
use Rattle.s10_book.specs.Rules.{void_answer, void_issue, query_answer, status_of_issue}
use Rattle.s10_history.proofs.Numbering.{Contains-find}
use Rattle.s10_history.proofs.Push.{same_ranges}
use Rattle.s10_book.proofs.Apart.{apart}
use Rattle.s10_book.proofs.Carried.{made_by, InTurn, IsPicked, picked_from, carried}
use Rattle.s10_book.proofs.Own.{lies_picked}
use Rattle.s10_book.proofs.Marks.{one_range}
use Rattle.s10_history.proofs.Voided.{same_last_issue}

-- A closed range stays closed.
pub stays_closed : (h : List Entry) (e : Entry) (num : ℕ) → IsTrue (is_closed h num)
    → IsTrue (is_closed (h ++ e ∷ []) num)
stays_closed h e num closed =
    let does : Entry → Bool = λ f. withdraws num f.request.body f.outcome in
    list_any-append does h (e ∷ []) ∙ or_left (is_closed h num) (list_any does (e ∷ [])) closed

-- An identifier that is picked from a range that is not closed.
record IsPickedOpen (g : List Entry) (customer day n : ℕ) (is : List Issuance) (c : ℕ × Id) :
    Type 0 where
  pub picked : IsPicked (ranges_of g) customer day n is c
  pub not_closed : is_closed g picked.range.num ≡ false

open_picked : (g : List Entry) (customer day n : ℕ) (s c : ℕ × ℕ) (js : List Issuance) (r : Range)
    → find (has_free_pick js day n) (ranges_open g customer s c) ≡ Some r
    → IsPickedOpen g customer day n js (day, id_at r (pick_of js r))
unfolding picked_from
open_picked g customer day n s c js r found =
    let at : Contains (ranges_open g customer s c) r = Contains-find (has_free_pick js day n)
    (ranges_open g customer s c) r found in
    let passes : is_open g customer s c r ≡ true =
    All-contains (λ y. is_open g customer s c y ≡ true) (ranges_open g customer s c) r
    (filter_passes (is_open g customer s c) (ranges_of g)) at in
    record {
      picked = picked_from g (ranges_of g) customer day n s c js r found;
      not_closed =
          not-true (is_closed g r.num) (and_parts (is_held customer s c r) (not (is_closed g r.num))
          passes).1;
    }

all_in_turn : (P : List Issuance → ℕ × Id → Type 0) (Q : ℕ × Id → Type 0) (made : ℕ × Id → Issuance)
    → ((is : List Issuance) (c : ℕ × Id) → P is c → Q c)
    → (is : List Issuance) (cs : List (ℕ × Id)) → InTurn P made is cs → All Q cs
all_in_turn P Q made weaker is [] turn = All-nil Q
all_in_turn P Q made weaker is (c ∷ cs) turn = All-cons Q c cs (weaker is c turn.0)
    (all_in_turn P Q made weaker (is ++ made c ∷ []) cs turn.1)

-- After its withdrawal no identifier of a range is issued.
pub none_withdrawn : (h : List Entry) (t : Terms) (e : Entry) → IsLegal h t → MayFollow h t e
    → (r : Range) → Contains (ranges_of h) r → IsTrue (is_closed h r.num)
    → All (λ c. ¬ (IsTrue (lies_in r c.1))) (carried_by e.outcome)
none_withdrawn h t e legal may r there closed =
    let P : List Issuance → ℕ × Id → Type 0 = IsPickedOpen h e.request.customer e.day t.interval in
    let T : Outcome → Type 0 = λ o. All (λ (c : ℕ × Id). ¬ (IsTrue (lies_in r c.1)))
    (carried_by o) in
    subst T (sym may.right)
    (all_in_turn P (λ c. ¬ (IsTrue (lies_in r c.1))) (made_by e (1 + length h))
    (λ is c from lies. both_ways (is_closed h r.num) (other is c from lies) closed)
    (issues_of h)
    (carried_by (body_answer h e.request.customer e.request.body e.day t.interval))
    (carried P h e.request.customer e.day t.interval e.request.body (made_by e (1 + length h))
    (λ c. refl) (λ c. refl) (λ s c. open_picked h e.request.customer e.day t.interval s c)))
  where
    other : (is : List Issuance) (c : ℕ × Id) → IsPickedOpen h e.request.customer e.day t.interval
        is c → IsTrue (lies_in r c.1) → is_closed h r.num ≡ false
    other is c from lies =
        let same : from.picked.range ≡ r = one_range (ranges_of h) from.picked.range r c.1
        (apart h t legal) from.picked.there there (lies_picked h t e.request.customer e.day
        t.interval is c legal from.picked) lies in
        ap (λ (s : Range). is_closed h s.num) (sym same) ∙ from.not_closed

withdrawn_ranges : (h : List Entry) (e : Entry) (num : ℕ) → e.request.body ≡ Withdraw num
    → e.outcome ≡ Withdrawn → ranges_of (h ++ e ∷ []) ≡ ranges_of h
withdrawn_ranges h e num asks done =
    same_ranges h e (ap₂ (λ (b : Body) (o : Outcome). range_of_grant (1 + length (ranges_of h)) b o)
    asks done)

same_last : (h : List Entry) (e : Entry) (num : ℕ) (x : Id) → e.request.body ≡ Withdraw num
    → e.outcome ≡ Withdrawn → last_issue_of (h ++ e ∷ []) x ≡ last_issue_of h x
same_last h e num x asks done = same_last_issue h e x (ap carried_by done)
    (ap₂ (λ (b : Body) (o : Outcome). voids_by x b o) asks done)

-- A withdrawal changes no outcome of a Grant.
pub same_grants : (h : List Entry) (e : Entry) (num : ℕ) → e.request.body ≡ Withdraw num
    → e.outcome ≡ Withdrawn → (customer holder : ℕ) (service country : ℕ × ℕ) (first last : ℕ)
    → grant_answer (h ++ e ∷ []) customer holder service country first last
    ≡ grant_answer h customer holder service country first last
same_grants h e num asks done customer holder service country first last =
    ap
    (λ (rs : List Range). cond (not (eqb customer 0)) NotThePost
    (cond (eqb holder 0 || ltb last first) BadGrant
    (cond (list_any (overlaps service country first last) rs) Overlap
    (Granted (length rs + 1)))))
    (withdrawn_ranges h e num asks done)

-- A withdrawal changes no outcome of a Void.
pub same_voids : (h : List Entry) (e : Entry) (num : ℕ) → e.request.body ≡ Withdraw num
    → e.outcome ≡ Withdrawn → (customer : ℕ) (x : Id) → void_answer (h ++ e ∷ []) customer x
    ≡ void_answer h customer x
same_voids h e num asks done customer x =
    ap₂ (λ (rs : List Range) (o : Option Issue). cond (list_any (is_own customer x) rs)
    (void_issue o) NotYours) (withdrawn_ranges h e num asks done) (same_last h e num x asks done)

-- A withdrawal changes no outcome of a Query.
pub same_queries : (h : List Entry) (e : Entry) (num : ℕ) → e.request.body ≡ Withdraw num
    → e.outcome ≡ Withdrawn → (customer : ℕ) (x : Id) → query_answer (h ++ e ∷ []) customer x
    ≡ query_answer h customer x
same_queries h e num asks done customer x =
    ap₂
    (λ (rs : List Range) (o : Option Issue).
    cond (eqb customer 0 || list_any (is_own customer x) rs)
    (Told (cond (list_any (λ r. lies_in r x) rs) (status_of_issue o) Unknown)) NotYours)
    (withdrawn_ranges h e num asks done) (same_last h e num x asks done)
