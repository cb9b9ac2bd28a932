-- The issuances of a call, one after another.
use Rattle.std.proofs.Common.{◌≡◌, ◌∙◌, ℕ, zero, suc, ◌+◌, ◌<◌, ◌≤◌, List, [], ◌∷◌, ◌++◌, map, take}
use Rattle.std.proofs.Common.{Option, Some, None, length, refl, sym, ap, subst, arith}
use Rattle.std.proofs.Common.{append-nil, append_assoc, take_all}
use Rattle.std.specs.Prelude.{slice_get, Contains}
use Rattle.std.specs.Option.{option_map}
use Rattle.std.proofs.lemmas.Option.{none-some, same_Some, slice_get_within}
use Rattle.std.proofs.lemmas.Option.{get_or_from_slice_get, slice_get-map}
use Rattle.std.proofs.lemmas.List.{take_more, length-map, take-map}
use Rattle.s10_history.specs.declared.entry.Entry.{Entry}
use Rattle.s10_history.specs.declared.issuance.Issuance.{Issuance}
use Rattle.s10_core.specs.declared.id.Id.{Id}
use Rattle.s10_history.specs.Settings.{Terms}
use Rattle.s10_history.specs.History.{ranges_of}
use Rattle.s10_history.specs.Issues.{issues_of, issues_at, carried_by, pick_of, pick_after}
use Rattle.s10_book.specs.Rules.{MayFollow, IsLegal}
use Rattle.s10_book.proofs.Carried.{made_by, InTurn, IsPicked, in_turn, carried_call}
use Rattle.s10_history.proofs.Push.{issues_from-push}
use Rattle.s10_history.specs.declared.range.Range.{Range}
use Rattle.s10_book.proofs.Marks.{Turns, all_at_pick, mark_step, picked_mark, turns_pick}
use Rattle.s10_history.proofs.Numbering.{past_end}

-- The issuances of a history, followed by those of the next call before an index.
abbrev pub issues_upto : List Entry → Entry → ℕ → List Issuance
issues_upto h e place = issues_of h ++ take place (issues_at (1 + length h) e)

pub upto_all : (h : List Entry) (e : Entry) (place : ℕ) → length (carried_by e.outcome) ≤ place
    → issues_upto h e place ≡ issues_of (h ++ e ∷ [])
upto_all h e place past =
    let made : ℕ × Id → Issuance = made_by e (1 + length h) in
    ap (λ (l : List Issuance). issues_of h ++ l)
    (take_all place (issues_at (1 + length h) e)
    (omega (arith, past, length-map (carried_by e.outcome) made))) ∙ sym (issues_from-push 1 h e)

-- One more issuance.
pub issue_next : (h : List Entry) (e : Entry) (place : ℕ) (y : Issuance)
    → slice_get (issues_at (1 + length h) e) place ≡ Some y
    → issues_upto h e (place + 1) ≡ issues_upto h e place ++ y ∷ []
issue_next h e place y at =
    let l : List Issuance = issues_at (1 + length h) e in
    ap (λ (js : List Issuance). issues_of h ++ js)
    (take_more l place y (slice_get_within l place y at)
    ∙ ap (λ (i : Issuance). take place l ++ i ∷ []) (get_or_from_slice_get l place y y at))
    ∙ sym (append_assoc (issues_of h) (take place l) (y ∷ []))

pub upto_next : (h : List Entry) (e : Entry) (place : ℕ) (c : ℕ × Id)
    → slice_get (carried_by e.outcome) place ≡ Some c → issues_upto h e (place + 1)
    ≡ issues_upto h e place ++ made_by e (1 + length h) c ∷ []
upto_next h e place c at =
    let made : ℕ × Id → Issuance = made_by e (1 + length h) in
    issue_next h e place (made c) (slice_get-map made (carried_by e.outcome) place
    ∙ ap (option_map made) at)

-- The same, by the identifiers that the call carries.
upto_carried : (h : List Entry) (e : Entry) (place : ℕ) → issues_upto h e place
    ≡ issues_of h ++ map (made_by e (1 + length h)) (take place (carried_by e.outcome))
upto_carried h e place = ap (λ l. issues_of h ++ l)
    (take-map (made_by e (1 + length h)) place (carried_by e.outcome))

turn_before : (P : List Issuance → ℕ × Id → Type 0) (made : ℕ × Id → Issuance) (is : List Issuance)
    (cs : List (ℕ × Id)) (place : ℕ) → InTurn P made is cs → InTurn P made is (take place cs)
turn_before P made is cs zero lap = tt
turn_before P made is [] (suc place) lap = tt
turn_before P made is (c ∷ cs) (suc place) lap =
    (lap.0, turn_before P made (is ++ made c ∷ []) cs place lap.1)

turn_at : (P : List Issuance → ℕ × Id → Type 0) (made : ℕ × Id → Issuance) (is : List Issuance)
    (cs : List (ℕ × Id)) (place : ℕ) (c : ℕ × Id) → InTurn P made is cs → slice_get cs place
    ≡ Some c → P (is ++ map made (take place cs)) c
turn_at P made is [] place c lap at = absurd (let lt = slice_get_within [] place c at in
    omega (arith, lt))
turn_at P made is (d ∷ cs) zero c lap at =
    let Q : List Issuance → Type 0 = λ l. P l c in
    subst Q (sym (append-nil is)) (subst (P is) (same_Some d c at) lap.0)
turn_at P made is (d ∷ cs) (suc place) c lap at =
    let Q : List Issuance → Type 0 = λ l. P l c in
    subst Q (append_assoc is (made d ∷ []) (map made (take place cs)))
    (turn_at P made (is ++ made d ∷ []) cs place c lap.1 at)

-- The issuance at an index of a call that may follow was picked after the issuances before it.
pub picked_at : (h : List Entry) (t : Terms) (e : Entry) (place : ℕ) (c : ℕ × Id) → MayFollow h t e
    → slice_get (carried_by e.outcome) place ≡ Some c
    → IsPicked (ranges_of h) e.request.customer e.day t.interval (issues_upto h e place) c
picked_at h t e place c may at =
    let P : List Issuance → ℕ × Id → Type 0 = IsPicked (ranges_of h) e.request.customer e.day
    t.interval in
    let Q : List Issuance → Type 0 = λ is. P is c in
    subst Q (sym (upto_carried h e place)) (turn_at P (made_by e (1 + length h)) (issues_of h)
    (carried_by e.outcome) place c (carried_call h t e may) at)

-- What is true of the issuances of a history, and stays true after each pick, is true before each
-- index of the next call.
pub upto_holds : (Q : List Issuance → Type 0) (h : List Entry) (t : Terms) (e : Entry) (place : ℕ)
    → MayFollow h t e → Q (issues_of h)
    → ((is : List Issuance) (c : ℕ × Id) → IsPicked (ranges_of h) e.request.customer e.day
    t.interval is c → Q is → Q (is ++ made_by e (1 + length h) c ∷ []))
    → Q (issues_upto h e place)
upto_holds Q h t e place may start step =
    let P : List Issuance → ℕ × Id → Type 0 = IsPicked (ranges_of h) e.request.customer e.day
    t.interval in
    subst Q (sym (upto_carried h e place)) (in_turn P Q (made_by e (1 + length h)) (issues_of h)
    (take place (carried_by e.outcome)) (turn_before P (made_by e (1 + length h)) (issues_of h)
    (carried_by e.outcome) place (carried_call h t e may)) start step)

-- The mark of each of the ranges is its pick.
abbrev pub AtPicks : List Range → List Issuance → Type 0
AtPicks rs is = (r : Range) → Contains rs r → Turns r is (pick_of is r)

-- The mark of each range is its pick before each index of a call that may follow.
pub at_picks : (h : List Entry) (t : Terms) (e : Entry) (place : ℕ) → IsLegal h t → MayFollow h t e
    → AtPicks (ranges_of h) (issues_upto h e place)
at_picks h t e place legal may =
    upto_holds (AtPicks (ranges_of h)) h t e place may (all_at_pick h t legal)
    (λ is c picked before r there.
    let y : Issuance = made_by e (1 + length h) c in
    turns_pick r (is ++ y ∷ []) (
      pick_after r (pick_of is r) c.1,
      mark_step r is y (pick_of is r) (picked_mark h t e.request.customer e.day t.interval is c r
          legal picked there) (before r there),
    ))

mapped_at : (made : ℕ × Id → Issuance) (o : Option (ℕ × Id)) (i : Issuance) → option_map made o
    ≡ Some i → (c : ℕ × Id) × (o ≡ Some c) × (made c ≡ i)
mapped_at made None i is = absurd (none-some i is)
mapped_at made (Some c) i is = (c, refl, same_Some (made c) i is)

-- The issuance at an index has the identifier that the outcome carries there.
pub carried_at : (e : Entry) (arrival place : ℕ) (i : Issuance)
    → slice_get (issues_at arrival e) place ≡ Some i → (c : ℕ × Id)
    × (slice_get (carried_by e.outcome) place ≡ Some c) × (made_by e arrival c ≡ i)
carried_at e arrival place i at =
    mapped_at (made_by e arrival) (slice_get (carried_by e.outcome) place) i
    (sym (slice_get-map (made_by e arrival) (carried_by e.outcome) place) ∙ at)

-- There is an issuance at each index below the number of carried identifiers.
pub issue_within : (e : Entry) (arrival place : ℕ) → place < length (carried_by e.outcome)
    → slice_get (issues_at arrival e) place ≡ None → ⊥
issue_within e arrival place within none =
    omega (
      arith,
      within,
      past_end (issues_at arrival e) place none,
      length-map (carried_by e.outcome) (made_by e arrival),
    )
