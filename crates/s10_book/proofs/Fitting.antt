-- The outcome of the rules fits the request.
use Rattle.std.proofs.Common.{◌≡◌, ℕ, zero, suc, ◌+◌, Bool, true, false, cond, not, eqb, ltb, ◌||◌}
use Rattle.std.proofs.Common.{List, [], ◌∷◌, ◌++◌, Option, Some, None, refl, sym, ap, ◌∙◌, inl, inr}
use Rattle.std.proofs.Common.{length, take}
use Rattle.std.specs.Prelude.{◌==◌, find, is_none, IsTrue, IfSome, slice_get}
use Rattle.std.specs.List.{list_any}
use Rattle.std.specs.Option.{option_map}
use Rattle.s10_wire.specs.Kind.{fits}
use Rattle.s10_core.specs.declared.id.Id.{Id}
use Rattle.s10_wire.specs.declared.body.Body.{Body}
use Rattle.s10_wire.specs.declared.body.Body.TheVariants.{Grant, Draw, Void, Query, DrawMany}
use Rattle.s10_wire.specs.declared.body.Body.TheVariants.{Withdraw}
use Rattle.s10_wire.specs.declared.outcome.Outcome.{Outcome}
use Rattle.s10_wire.specs.declared.outcome.Outcome.TheVariants.{Granted, Drawn, Voided, Told}
use Rattle.s10_wire.specs.declared.outcome.Outcome.TheVariants.{Withdrawn, NotThePost, BadGrant}
use Rattle.s10_wire.specs.declared.outcome.Outcome.TheVariants.{Overlap, NotYours, AlreadyVoid}
use Rattle.s10_wire.specs.declared.outcome.Outcome.TheVariants.{NoSuchRange, Closed}
use Rattle.s10_history.specs.declared.entry.Entry.{Entry}
use Rattle.s10_history.specs.declared.range.Range.{Range}
use Rattle.s10_history.specs.declared.issue.Issue.{Issue}
use Rattle.s10_history.specs.declared.issuance.Issuance.{Issuance}
use Rattle.s10_history.specs.Settings.{Terms}
use Rattle.s10_history.specs.History.{has_key, find_entry, ranges_of, ranges_open, is_own, overlaps}
use Rattle.s10_history.specs.History.{is_closed}
use Rattle.s10_history.specs.Issues.{issues_of, last_issue_of}
use Rattle.s10_book.specs.Rules.{IsLegal, body_answer, outcome_of_pick, outcome_of_draws}
use Rattle.s10_book.specs.Rules.{then_drawn, draw_answer, draw_done, successive_draws, void_issue}
use Rattle.s10_book.specs.Rules.{status_of}
use Rattle.s10_history.proofs.Numbering.{find_cases}
use Rattle.std.proofs.lemmas.Option.{none-some, same_Some}
use Rattle.std.proofs.lemmas.Bool.{eq-eqb}

either : (b : Body) (test : Bool) (x y : Outcome) → IsTrue (fits b x) → IsTrue (fits b y)
    → IsTrue (fits b (cond test x y))
either b true x y p q = p
either b false x y p q = q

drawn_fits : (service country : ℕ × ℕ) (is : List Issuance) (day : ℕ) (rs : List Range)
    (o : Option Range) → IsTrue (fits (Draw service country) (outcome_of_pick is day rs o))
drawn_fits service country is day [] None = refl
drawn_fits service country is day [] (Some r) = refl
drawn_fits service country is day (x ∷ xs) None = refl
drawn_fits service country is day (x ∷ xs) (Some r) = refl

void_fits : (x : Id) (o : Option Issue) → IsTrue (fits (Void x) (void_issue o))
void_fits x None = refl
void_fits x (Some i) = either (Void x) i.voided AlreadyVoid Voided refl refl

row_step : (o : Outcome) (next : Id → Option (List Id)) (n : ℕ) (ids : List Id)
    → ((x : Id) (xs : List Id) → next x ≡ Some xs → length xs ≡ n) → then_drawn o next ≡ Some ids
    → length ids ≡ suc n
row_step (Drawn day x) next n ids rest is = mapped (next x) refl is
  where
    mapped : (u : Option (List Id)) → next x ≡ u → option_map (λ xs. x ∷ xs) u ≡ Some ids
        → length ids ≡ suc n
    mapped None e is' = absurd (none-some ids is')
    mapped (Some xs) e is' = sym (ap length (same_Some (x ∷ xs) ids is')) ∙ ap suc (rest x xs e)
row_step o next n ids rest is = absurd (none-some ids is)

-- Successive Draws give as many identifiers as there are Draws.
pub row_length : (h : List Entry) (customer : ℕ) (s c : ℕ × ℕ) (day n count : ℕ) (ids : List Id)
    → successive_draws h customer s c day n count ≡ Some ids → length ids ≡ count
row_length h customer s c day n zero ids is = sym (ap length (same_Some [] ids is))
row_length h customer s c day n (suc k) ids is =
    row_step (draw_answer h customer s c day n) _ k ids
    (λ x xs. row_length (h ++ draw_done customer s c day x ∷ []) customer s c day n k xs) is

row_fits : (s c : ℕ × ℕ) (count day : ℕ) (rs : List Range) (row : Option (List Id))
    → ((ids : List Id) → row ≡ Some ids → length ids ≡ count)
    → IsTrue (fits (DrawMany s c count) (outcome_of_draws day rs row))
row_fits s c count day [] row long = refl
row_fits s c count day (x ∷ xs) None long = refl
row_fits s c count day (x ∷ xs) (Some ids) long = eq-eqb (length ids) count (long ids refl)

pub answer_fits : (h : List Entry) (customer : ℕ) (b : Body) (day interval : ℕ)
    → IsTrue (fits b (body_answer h customer b day interval))
answer_fits h customer (Grant holder service country first last) day interval =
    let body = Grant holder service country first last in
    let granted = cond (list_any (overlaps service country first last) (ranges_of h)) Overlap
    (Granted (length (ranges_of h) + 1)) in
    let named = cond (eqb holder 0 || ltb last first) BadGrant granted in
    either body (not (eqb customer 0)) NotThePost named refl
    (either body (eqb holder 0 || ltb last first) BadGrant granted refl
    (either body (list_any (overlaps service country first last) (ranges_of h)) Overlap
    (Granted (length (ranges_of h) + 1)) refl refl))
answer_fits h customer (Draw service country) day interval =
    drawn_fits service country (issues_of h) day _ _
answer_fits h customer (Void x) day interval =
    either (Void x) (list_any (is_own customer x) (ranges_of h)) (void_issue (last_issue_of h x))
    NotYours (void_fits x (last_issue_of h x)) refl
answer_fits h customer (Query x) day interval =
    either (Query x) (eqb customer 0 || list_any (is_own customer x) (ranges_of h))
    (Told (status_of h x)) NotYours refl refl
answer_fits h customer (Withdraw range) day interval =
    let body = Withdraw range in
    let once = cond (is_closed h range) Closed Withdrawn in
    let there = cond (is_none (find (λ r. r.num == range) (ranges_of h))) NoSuchRange once in
    either body (not (eqb customer 0)) NotThePost there refl
    (either body (is_none (find (λ r. r.num == range) (ranges_of h))) NoSuchRange once refl
    (either body (is_closed h range) Closed Withdrawn refl refl))
answer_fits h customer (DrawMany s c count) day interval =
    row_fits s c count day (ranges_open h customer s c) (successive_draws h customer s c day
    interval count) (row_length h customer s c day interval count)

-- What is found is at an index.
pub found_place : {A : Type 0} (p : A → Bool) (xs : List A) (x : A) → find p xs ≡ Some x
    → (k : ℕ) × (slice_get xs k ≡ Some x)
found_place p [] x found = absurd (none-some x found)
found_place p (y ∷ ys) x found =
    elim (find_cases p y x ys found) [
      | inl w ↦ (0, ap Some w.1)
      | inr w ↦ let there = found_place p ys x w.1 in (suc there.0, there.1)
    ]

-- The outcome of an entry that is found fits its request.
pub found_fits : (h : List Entry) (t : Terms) (customer number : ℕ) (o : Option Entry) → IsLegal h t
    → o ≡ find_entry h customer number → IfSome o (λ e. IsTrue (fits e.request.body e.outcome))
found_fits h t customer number None legal e = tt
found_fits h t customer number (Some e) legal is =
    let there = found_place (has_key customer number) h e (sym is) in
    rw ((legal.follow there.0 e there.1).right) (answer_fits (take there.0 h) e.request.customer
    e.request.body e.day t.interval)
