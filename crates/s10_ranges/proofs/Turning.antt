-- The lap of a range, and how its mark moves.
use Rattle.std.proofs.Common.{◌≡◌, ◌∙◌, ℕ, ◌+◌, ◌-◌, ◌≤◌, Bool, true, false, cond, not, eqb, ◌||◌}
use Rattle.std.proofs.Common.{List, [], ◌∷◌, ◌++◌, Option, Some, None, length, refl}
use Rattle.std.proofs.Common.{sym, ap, ap₂, subst, arith, inl, inr}
use Rattle.std.specs.Prelude.{Contains}
use Rattle.std.specs.List.{last_or}
use Rattle.std.specs.Option.{option_map, option_or, unwrap_or}
use Rattle.std.proofs.lemmas.Bool.{both_ways, cases_eq, eq-eqb, ne_eqb}
use Rattle.std.proofs.lemmas.Bool.{false_from_ne_true, not_from_false, not-true}
use Rattle.std.proofs.lemmas.List.Folds.{list_any-append, list_any_none}
use Rattle.std.proofs.lemmas.List.Elements.{All-weaker, All-contains}
use Rattle.s10_core.specs.declared.id.Id.{Id}
use Rattle.s10_core.specs.Id.{same_id}
use Rattle.s10_wire.specs.declared.outcome.Outcome.TheVariants.{Granted}
use Rattle.s10_history.specs.declared.candidate.Candidate.{Candidate}
use Rattle.s10_history.specs.declared.entry.Entry.{Entry}
use Rattle.s10_history.specs.declared.range.Range.{Range}
use Rattle.s10_history.specs.declared.issue.Issue.{Issue}
use Rattle.s10_history.specs.declared.issuance.Issuance.{Issuance}
use Rattle.s10_history.specs.Settings.{Terms}
use Rattle.s10_history.specs.History.{ranges_of, range_of_grant, lies_in}
use Rattle.s10_history.specs.Issues.{issues_of, carried_by, is_of, is_issued, id_at, serials}
use Rattle.s10_history.specs.Issues.{least_serial_unissued, serial_issued_earliest, pick_of}
use Rattle.s10_history.specs.Issues.{serial_after, is_voided, last_issue_of, candidate_of}
use Rattle.s10_book.specs.Rules.{IsLegal, MayFollow}
use Rattle.s10_book.proofs.Free.{id_equal, id_within, none_within}
use Rattle.s10_book.proofs.Marks.{Turns, turns_inside, turns_outside, pick_turns}
use Rattle.s10_book.proofs.Marks.{pick_new, none_issued}
use Rattle.s10_book.proofs.Own.{ordered, lies_at, new_ordered}
use Rattle.s10_history.proofs.Push.{same_issues}
use Rattle.s10_history.proofs.Numbering.{found_passes}
use Rattle.s10_book.proofs.Spaced.{id_same}
use Rattle.s10_ranges.specs.declared.mark.Mark.{Mark}
use Rattle.s10_ranges.specs.declared.lap.Lap.{Lap}
use Rattle.s10_ranges.specs.declared.lap.Lap.TheVariants.{First, Later}
use Rattle.s10_ranges.specs.Laps.{lap_of, mark_of, mark_after}
use Rattle.s10_history.proofs.Voided.{or_none}
use Rattle.s10_history.proofs.Issued.{none_filter}

abbrev mark_at : ℕ → Lap → Mark
mark_at serial lap = record { serial = serial; lap = lap }

-- A range of a legal history has a serial.
pub in_order : (h : List Entry) (t : Terms) (r : Range) → IsLegal h t → Contains (ranges_of h) r
    → r.first ≤ r.last
in_order h t r legal there = All-contains (λ s. s.first ≤ s.last) (ranges_of h) r
    (ordered h t legal) there

-- After an issue in the range.

turned : (b c : Bool) → cond (b || (c || false)) Later First ≡ cond c Later (cond b Later First)
turned true true = refl
turned true false = refl
turned false true = refl
turned false false = refl

is_last : (r : Range) (x : Id) → lies_in r x ≡ true → same_id x (id_at r r.last)
    ≡ eqb x.serial r.last
is_last r x lies =
    elim (cases_eq x.serial r.last) [
      | inl e ↦ id_same x (id_at r r.last) (sym (id_within r x lies) ∙ ap (id_at r) e)
          ∙ sym (eq-eqb x.serial r.last e)
      | inr ne ↦ false_from_ne_true (same_id x (id_at r r.last))
          (λ is. ne (ap (λ (y : Id). y.serial) (id_equal x (id_at r r.last) is)))
          ∙ sym (ne_eqb x.serial r.last ne)
    ]

turn_inside : (r : Range) (is : List Issuance) (y : Issuance) → lies_in r y.id ≡ true
    → lap_of (is ++ y ∷ []) r ≡ cond (eqb y.id.serial r.last) Later (lap_of is r)
turn_inside r is y lies =
    ap (λ (b : Bool). cond b Later First) (list_any-append (is_of (id_at r r.last)) is (y ∷ []))
    ∙ turned (is_issued is (id_at r r.last)) (same_id y.id (id_at r r.last))
    ∙ ap (λ (b : Bool). cond b Later (lap_of is r)) (is_last r y.id lies)

pub mark_inside : (r : Range) (is : List Issuance) (y : Issuance) → Turns r is (pick_of is r)
    → lies_in r y.id ≡ true → y.id.serial ≡ pick_of is r
    → mark_of (is ++ y ∷ []) r ≡ mark_after r (lap_of is r) y.id.serial
mark_inside r is y turns lies at =
    ap₂ mark_at (pick_turns r (is ++ y ∷ []) (serial_after r (pick_of is r))
    (turns_inside r is y (pick_of is r) lies at turns) ∙ ap (serial_after r) (sym at))
    (turn_inside r is y lies)

-- After an issue outside the range.

turn_outside : (r : Range) (is : List Issuance) (y : Issuance) → r.first ≤ r.last
    → lies_in r y.id ≡ false → lap_of (is ++ y ∷ []) r ≡ lap_of is r
turn_outside r is y order out =
    let P : Id → Type 0 = λ x. lies_in r x ≡ true in
    let last : lies_in r (id_at r r.last) ≡ true =
    lies_at r r.last (record { low = order; high = omega arith }) in
    let other : same_id y.id (id_at r r.last) ≡ false =
    false_from_ne_true (same_id y.id (id_at r r.last)) (λ is. both_ways (lies_in r y.id) out
    (subst P (sym (id_equal y.id (id_at r r.last) is)) last)) in
    ap (λ (b : Bool). cond b Later First)
    (list_any-append (is_of (id_at r r.last)) is (y ∷ [])
    ∙ ap (λ (b : Bool). is_issued is (id_at r r.last) || (b || false)) other
    ∙ or_none (is_issued is (id_at r r.last)) false refl)

pub mark_outside : (r : Range) (is : List Issuance) (y : Issuance) → r.first ≤ r.last
    → Turns r is (pick_of is r) → lies_in r y.id ≡ false → mark_of (is ++ y ∷ []) r ≡ mark_of is r
mark_outside r is y order turns out =
    ap₂ mark_at (pick_turns r (is ++ y ∷ []) (pick_of is r) (turns_outside r is y (pick_of is r) out
    turns)) (turn_outside r is y order out)

-- After the Grant of the range.

-- The last serial of a new range was never issued.
last_new : (h : List Entry) (t : Terms) (e : Entry) (r : Range) (num : ℕ) → IsLegal h t
    → MayFollow h t e → range_of_grant num e.request.body e.outcome ≡ Some r
    → is_issued (issues_of h) (id_at r r.last) ≡ false
last_new h t e r num legal may made =
    let order = new_ordered h e.request.customer e.day t.interval num e.request.body e.outcome r
    may.right made in
    let last : lies_in r (id_at r r.last) ≡ true =
    lies_at r r.last (record { low = order; high = omega arith }) in
    let P : Id → Type 0 = λ y. lies_in r y ≡ true in
    list_any_none (is_of (id_at r r.last)) (issues_of h)
    (All-weaker (λ i. lies_in r i.id ≡ false) (λ i. is_of (id_at r r.last) i ≡ false)
    (λ i out. false_from_ne_true (same_id i.id (id_at r r.last)) (λ is.
    both_ways (lies_in r i.id) out (subst P (sym (id_equal i.id (id_at r r.last) is)) last)))
    (issues_of h) (none_issued h t e r num legal may made))

-- A Done Grant issues nothing.
pub none_granted : (h : List Entry) (e : Entry) (num : ℕ) → e.outcome ≡ Granted num
    → issues_of (h ++ e ∷ []) ≡ issues_of h
none_granted h e num done = same_issues h e (ap carried_by done)

pub mark_new : (h : List Entry) (t : Terms) (e : Entry) (num : ℕ) (r : Range) → IsLegal h t
    → MayFollow h t e → e.outcome ≡ Granted num → range_of_grant (length (ranges_of h) + 1)
    e.request.body e.outcome ≡ Some r
    → mark_of (issues_of (h ++ e ∷ [])) r ≡ mark_at r.first First
mark_new h t e num r legal may done made =
    ap₂ mark_at (pick_new h t e legal may r made)
    (ap (λ (is : List Issuance). lap_of is r) (none_granted h e num done)
    ∙ ap (λ (b : Bool). cond b Later First) (last_new h t e r (length (ranges_of h) + 1) legal
    may made))

-- The serial at the mark in the first lap.

still_first : (b : Bool) → cond b Later First ≡ First → b ≡ false
still_first true h = absurd (let e = h in cc)
still_first false h = refl

-- The pick of a range in its first lap was never issued.
pub pick_unissued : (is : List Issuance) (r : Range) → r.first ≤ r.last → lap_of is r ≡ First
    → is_issued is (id_at r (pick_of is r)) ≡ false
pick_unissued is r order lap = at (least_serial_unissued r is) refl
  where
    test : ℕ → Bool
    test = λ serial. not (is_issued is (id_at r serial))

    at : (o : Option ℕ) → least_serial_unissued r is ≡ o → is_issued is (id_at r (pick_of is r))
        ≡ false
    at None none =
        absurd (both_ways (test r.last) (none_within test r.first (r.last + 1 - r.first) r.last none
        order (omega (arith, order)))
        (not_from_false (is_issued is (id_at r r.last)) (still_first (is_issued is (id_at r r.last))
        lap)))
    at (Some s) found =
        let P : ℕ → Type 0 = λ k. is_issued is (id_at r k) ≡ false in
        subst P (sym (ap (λ (o : Option ℕ). unwrap_or (option_or o (serial_issued_earliest r is))
        r.first) found)) (not-true (is_issued is (id_at r s))
        (found_passes test (serials r) s found))

abbrev new_candidate : ℕ → Option Issue → Candidate
new_candidate serial issue = record { serial = serial; issue = issue }

-- The candidate of a range in its first lap has no issue.
pub candidate_new : (h : List Entry) (t : Terms) (r : Range) (m : Mark) → IsLegal h t
    → Contains (ranges_of h) r → m ≡ mark_of (issues_of h) r → m.lap ≡ First
    → new_candidate m.serial None ≡ candidate_of h r
candidate_new h t r m legal there is first =
    let serial : m.serial ≡ pick_of (issues_of h) r = ap (λ (k : Mark). k.serial) is in
    let lap : lap_of (issues_of h) r ≡ First = sym (ap (λ (k : Mark). k.lap) is) ∙ first in
    let x : Id = id_at r (pick_of (issues_of h) r) in
    let told : Issuance → Issue = λ i. record {
      day = i.day;
      voided = is_voided h x;
      customer = i.customer;
      number = i.number;
    } in
    let none : last_issue_of h x ≡ None =
    ap (λ (is : List Issuance). option_map told (last_or None is))
    (none_filter (is_of x) (issues_of h)
    (pick_unissued (issues_of h) r (in_order h t r legal there) lap)) in
    ap₂ new_candidate serial (sym none)
