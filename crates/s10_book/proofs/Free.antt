-- If any serial of a range is free, its pick is free.
use Rattle.std.proofs.Common.{◌≡◌, ℕ, zero, suc, ◌+◌, ◌-◌, ◌<◌, ◌≤◌, Bool, true, false, not, ◌&&◌}
use Rattle.std.proofs.Common.{List, [], ◌∷◌, Option, Some, None, refl, sym, ap, ◌∙◌, inl, inr}
use Rattle.std.proofs.Common.{arith, subst, Ok}
use Rattle.std.specs.Prelude.{find, filter, All, IsTrue, IfOk, Result}
use Rattle.std.specs.List.{last_or, range_with_len}
use Rattle.std.proofs.lemmas.Bool.{both_ways, cases_Bool, cases_eq, eqb-true, leb-true, le-leb}
use Rattle.std.proofs.lemmas.Bool.{not-true, not-false, and_parts, and_cases}
use Rattle.std.proofs.lemmas.Option.{none-some}
use Rattle.std.proofs.lemmas.List.Folds.{list_any_none}
use Rattle.std.proofs.lemmas.List.Elements.{All-cons, All-weaker}
use Rattle.std.specs.Option.{option_map, option_or, unwrap_or}
use Rattle.s10_core.specs.declared.id.Id.{Id}
use Rattle.s10_history.proofs.Earliest.{earliest_cons}
use Rattle.s10_core.specs.Id.{same_id}
use Rattle.s10_wire.specs.declared.body.Body.TheVariants.{Draw}
use Rattle.s10_wire.specs.declared.outcome.Outcome.{Outcome}
use Rattle.s10_wire.specs.declared.outcome.Outcome.TheVariants.{NoneFree}
use Rattle.s10_book.specs.declared.book_fault.BookFault.{BookFault}
use Rattle.s10_history.specs.declared.entry.Entry.{Entry}
use Rattle.s10_history.specs.declared.range.Range.{Range}
use Rattle.s10_history.specs.declared.issuance.Issuance.{Issuance}
use Rattle.s10_history.specs.Settings.{Terms}
use Rattle.s10_history.specs.History.{day_of, lies_in, ranges_open}
use Rattle.s10_history.specs.Issues.{issues_of, is_of, last_issuance_of, is_issued}
use Rattle.s10_history.specs.Issues.{serial_issued_earliest, serials, pick_of, id_at, is_free}
use Rattle.s10_history.specs.Issues.{is_free_since}
use Rattle.s10_book.specs.Rules.{IsLegal, draw_answer, outcome_of_pick, has_free_pick, NothingFree}
use Rattle.s10_history.proofs.Numbering.{found_passes}
use Rattle.s10_book.proofs.Apart.{within, letters_equal}
use Rattle.s10_book.proofs.Spaced.{InDays, tail_days, head_days, last_none, id_itself, sound}
use Rattle.s10_history.proofs.Issued.{last_all, last_or-more, none_filter}
use Rattle.s10_book.proofs.Push.{none_kept}

pub id_equal : (a b : Id) → same_id a b ≡ true → a ≡ b
id_equal a b h =
    let outer = and_parts _ _ h in
    let inner = and_parts _ _ outer.0 in
    let e0 : a.service ≡ b.service = letters_equal a.service b.service inner.0 in
    let e1 : a.serial ≡ b.serial = eqb-true a.serial b.serial inner.1 in
    let e2 : a.country ≡ b.country = letters_equal a.country b.country outer.1 in
    λ k. record { service = e0 k; serial = e1 k; country = e2 k }

-- An identifier of a range is determined by its serial.
pub id_within : (r : Range) (x : Id) → lies_in r x ≡ true → id_at r x.serial ≡ x
id_within r x lies =
    let in' = within r x lies in
    λ k. record { service = sym in'.service k; serial = x.serial; country = sym in'.country k }

latest_some : (is : List Issuance) (x : Id) (o : Option Issuance) → last_issuance_of is x ≡ o
    → is_issued is x ≡ true → (l : Issuance) × (last_issuance_of is x ≡ Some l)
latest_some is x None e yes' =
    absurd (both_ways (is_issued is x)
    (list_any_none (is_of x) is (last_none (is_of x) None is e).1) yes')
latest_some is x (Some l) e yes' = (l, e)

-- An identifier that was issued has a last issuance.
pub issued_latest : (is : List Issuance) (x : Id) → is_issued is x ≡ true → (l : Issuance)
    × (last_issuance_of is x ≡ Some l)
issued_latest is x yes' = latest_some is x (last_issuance_of is x) refl yes'

latest_cons : (j : Issuance) (js : List Issuance) (y : Id) (i : Issuance) → last_issuance_of js y
    ≡ Some i → last_issuance_of (j ∷ js) y ≡ Some i
latest_cons j js y i e =
    elim (cases_Bool (is_of y j)) [
      | inl t ↦ rw t (last_or-more (Some j) (filter (is_of y) js) i e)
      | inr f ↦ rw f e
    ]

-- The oldest of the last issuances in a range.
record IsOldest (r : Range) (is : List Issuance) (l : Issuance) : Type 0 where
  i : Issuance
  found : serial_issued_earliest r is ≡ Some i.id.serial
  last : last_issuance_of is (id_at r i.id.serial) ≡ Some i
  before : i.day ≤ l.day

here : (r : Range) (j : Issuance) (js : List Issuance) (x : Id) (l : Issuance) → InDays (j ∷ js)
    → last_issuance_of (j ∷ js) x ≡ Some l → (lies_in r j.id && not (is_issued js j.id)) ≡ true
    → IsOldest r (j ∷ js) l
here r j js x l days e t =
    let both = and_parts (lies_in r j.id) (not (is_issued js j.id)) t in
    let none : filter (is_of j.id) js ≡ [] = none_filter (is_of j.id) js (not-true _ both.1) in
    let itself : is_of j.id j ≡ true = id_itself j.id in
    let last : last_issuance_of (j ∷ js) j.id ≡ Some j = rw (itself, none) refl in
    let P : Id → Type 0 = λ y. last_issuance_of (j ∷ js) y ≡ Some j in
    record {
      i = j;
      found = earliest_cons r j js ∙ rw t refl;
      last = subst P (sym (id_within r j.id both.0)) last;
      before = last_all (λ i. j.day ≤ i.day) (is_of x) None (j ∷ js) l
          (All-cons (λ i. j.day ≤ i.day) j js (omega arith) (head_days j js days))
          (λ m s. absurd (none-some m s)) e;
    }

latest_tail : (r : Range) (j : Issuance) (js : List Issuance) (x : Id) (l : Issuance)
    → lies_in r x ≡ true → last_issuance_of (j ∷ js) x ≡ Some l
    → (lies_in r j.id && not (is_issued js j.id)) ≡ false → last_issuance_of js x ≡ Some l
latest_tail r j js x l lies e f =
    elim (cases_Bool (is_of x j)) [
      | inr other ↦ rw other at e
      | inl same ↦
          let is : j.id ≡ x = id_equal j.id x same in
          let P : Id → Type 0 = λ y. lies_in r y ≡ true in
          let again : is_issued js j.id ≡ true =
          elim (and_cases (lies_in r j.id) (not (is_issued js j.id)) f) [
            | inl out ↦ absurd (both_ways (lies_in r j.id) out (subst P (sym is) lies))
            | inr no' ↦ not-false (is_issued js j.id) no'
          ] in
          let Q : Id → Type 0 = λ y. is_issued js y ≡ true in
          let m = issued_latest js x (subst Q is again) in
          let e2 : last_or (Some j) (filter (is_of x) js) ≡ Some l = rw same at e in
          m.1 ∙ sym (last_or-more (Some j) (filter (is_of x) js) m.0 m.1) ∙ e2
    ]

oldest_of : (r : Range) (is : List Issuance) (x : Id) (l : Issuance) → InDays is
    → lies_in r x ≡ true → last_issuance_of is x ≡ Some l → IsOldest r is l
oldest_of r [] x l days lies e = absurd (none-some l e)
oldest_of r (j ∷ js) x l days lies e =
    elim (cases_Bool (lies_in r j.id && not (is_issued js j.id))) [
      | inl t ↦ here r j js x l days e t
      | inr f ↦
          let rest = oldest_of r js x l (tail_days j js days) lies
          (latest_tail r j js x l lies e f) in
          record {
            i = rest.i;
            found = earliest_cons r j js ∙ rw f rest.found;
            last = latest_cons j js (id_at r rest.i.id.serial) rest.i rest.last;
            before = rest.before;
          }
    ]

-- If no number is found, the test fails at each of them.
pub none_within : (p : ℕ → Bool) (low n s : ℕ) → find p (range_with_len low n) ≡ None → low ≤ s
    → s < low + n → p s ≡ false
none_within p low zero s e le lt = absurd (omega arith)
none_within p low (suc n) s e le lt =
    elim (cases_Bool (p low)) [
      | inl t ↦ absurd (none-some low (sym (rw t at e)))
      | inr f ↦ elim (cases_eq s low) [
        | inl same ↦ rw same f
        | inr other ↦ none_within p (low + 1) n s (rw f at e) (omega arith) (omega arith)
      ]
    ]

free_none : (o : Option Issuance) (day n : ℕ) → o ≡ None
    → is_free_since day n (option_map (λ (i : Issuance). i.day) o) ≡ true
free_none o day n e = rw e refl

free_some : (o : Option Issuance) (i : Issuance) (day n : ℕ) → o ≡ Some i → n ≤ day - i.day
    → is_free_since day n (option_map (λ (i : Issuance). i.day) o) ≡ true
free_some o i day n e le = rw e (le-leb n (day - i.day) le)

free_last : (o : Option Issuance) (i : Issuance) (day n : ℕ) → o ≡ Some i
    → is_free_since day n (option_map (λ (i : Issuance). i.day) o) ≡ true → n ≤ day - i.day
free_last o i day n e free = leb-true n (day - i.day) (rw e at free)

latest_none : (is : List Issuance) (x : Id) → is_issued is x ≡ false → last_issuance_of is x ≡ None
latest_none is x no' = ap (last_or None) (none_filter (is_of x) is no')

pub pick_free : (is : List Issuance) (r : Range) (x : Id) (day n : ℕ) → InDays is
    → lies_in r x ≡ true → is_free is x day n ≡ true → is_free is (id_at r (pick_of is r)) day n
    ≡ true
pick_free is r x day n days lies free =
    at (find (λ serial. not (is_issued is (id_at r serial))) (serials r)) refl
  where
    at : (f : Option ℕ) → find (λ serial. not (is_issued is (id_at r serial))) (serials r) ≡ f
        → is_free is (id_at r (unwrap_or (option_or f (serial_issued_earliest r is)) r.first)) day n
        ≡ true
    at (Some s) e =
        let new : is_issued is (id_at r s) ≡ false =
        not-true _ (found_passes (λ serial. not (is_issued is (id_at r serial))) (serials r) s
        e) in
        free_none _ day n (latest_none is (id_at r s) new)
    at None e =
        let in' = within r x lies in
        let fails : not (is_issued is (id_at r x.serial)) ≡ false =
        none_within (λ serial. not (is_issued is (id_at r serial))) r.first
        (r.last + 1 - r.first) x.serial e in'.low (omega (arith, in'.low, in'.high)) in
        let P : Id → Type 0 = λ y. is_issued is y ≡ true in
        let l = issued_latest is x
        (subst P (id_within r x lies) (not-false (is_issued is (id_at r x.serial)) fails)) in
        let old = oldest_of r is x l.0 days lies l.1 in
        let le : n ≤ day - l.0.day = free_last (last_issuance_of is x) l.0 day n l.1 free in
        let Q : Option ℕ → Type 0 = λ o. is_free is (id_at r (unwrap_or o r.first)) day n ≡ true in
        subst Q (sym old.found) (free_some _ old.i day n old.last (omega (arith, le, old.before)))

-- If any serial of a range is free on a day, its pick is free.
pub free_pick : (h : List Entry) (t : Terms) → IsLegal h t → (r : Range) (x : Id) (day : ℕ)
    → day_of h ≤ day → IsTrue (lies_in r x) → IsTrue (is_free (issues_of h) x day t.interval)
    → IsTrue (has_free_pick (issues_of h) day t.interval r)
free_pick h t legal r x day le lies free = pick_free (issues_of h) r x day t.interval
    (sound h t legal).days lies free

none_drawn : (is : List Issuance) (day : ℕ) (rs : List Range) (o : Option Range)
    → outcome_of_pick is day rs o ≡ NoneFree → o ≡ None
none_drawn is day [] None e = refl
none_drawn is day (x ∷ xs) None e = refl
none_drawn is day [] (Some r) e = cc
none_drawn is day (x ∷ xs) (Some r) e = cc

-- `NoneFree` is the outcome only if no serial of the customer's open ranges of that service and
-- country is free.
pub none_free : (h : List Entry) (t : Terms) → IsLegal h t
    → (customer : ℕ) (service country : ℕ × ℕ) (day : ℕ) → day_of h ≤ day
    → draw_answer h customer service country day t.interval ≡ NoneFree
    → All (λ r. (x : Id) → IsTrue (lies_in r x)
    → ¬ (IsTrue (is_free (issues_of h) x day t.interval)))
    (ranges_open h customer service country)
none_free h t legal customer service country day le is =
    let P : Range → Type 0 = λ r. has_free_pick (issues_of h) day t.interval r ≡ false in
    let Q : Range → Type 0 = λ r. (x : Id) → IsTrue (lies_in r x)
    → ¬ (IsTrue (is_free (issues_of h) x day t.interval)) in
    All-weaker P Q (λ r f x lies free. both_ways (has_free_pick (issues_of h) day t.interval r) f
    (free_pick h t legal r x day le lies free)) (ranges_open h customer service country)
    (none_kept (has_free_pick (issues_of h) day t.interval) (ranges_open h customer service country)
    (none_drawn (issues_of h) day (ranges_open h customer service country) _ is))

-- The same for a result that was returned.
pub nothing_free : (h : List Entry) (t : Terms) → IsLegal h t
    → (customer : ℕ) (service country : ℕ × ℕ) (day : ℕ) → day_of h ≤ day
    → (result : Result Outcome BookFault) (s c : ℕ × ℕ)
    → IfOk result (λ o. o ≡ draw_answer h customer service country day t.interval)
    → Draw service country ≡ Draw s c → result ≡ Ok NoneFree
    → NothingFree h customer s c day t.interval
nothing_free h t legal customer service country day le result s c answer same is =
    let told : NoneFree ≡ draw_answer h customer service country day t.interval =
    let P : Result Outcome BookFault → Type 0 =
    λ y. IfOk y (λ o. o ≡ draw_answer h customer service country day t.interval) in
    subst P is answer in
    let es : service ≡ s = cc in
    let ec : country ≡ c = cc in
    let f : ℕ × ℕ → Outcome = λ p. draw_answer h customer p country day t.interval in
    let g : ℕ × ℕ → Outcome = λ p. draw_answer h customer s p day t.interval in
    none_free h t legal customer s c day le (sym (told ∙ ap f es ∙ ap g ec))
