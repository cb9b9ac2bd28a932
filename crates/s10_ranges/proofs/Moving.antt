-- How the issuances of a call move the marks, one after another.
use Rattle.std.proofs.Common.{◌≡◌, ◌∙◌, ℕ, zero, suc, ◌+◌, ◌-◌, ◌<◌, ◌≤◌, Bool, cond, List, []}
use Rattle.std.proofs.Common.{◌∷◌, ◌++◌, map, set, take, Some, None, length, refl, sym, ap}
use Rattle.std.proofs.Common.{ap₂, subst, arith, inl, inr, ◌⊎◌, length-append}
use Rattle.std.specs.Prelude.{find, slice_get, ◌||◌}
use Rattle.std.proofs.lemmas.List.Folds.{list_any-append}
use Rattle.std.proofs.lemmas.Option.{none-some, same_Some, slice_get_within}
use Rattle.s10_core.specs.declared.id.Id.{Id}
use Rattle.s10_core.specs.Id.{same_id}
use Rattle.s10_history.specs.declared.entry.Entry.{Entry}
use Rattle.s10_history.specs.declared.range.Range.{Range}
use Rattle.s10_history.specs.declared.issuance.Issuance.{Issuance}
use Rattle.s10_history.specs.Settings.{Terms}
use Rattle.s10_history.specs.History.{ranges_of, overlaps}
use Rattle.s10_history.specs.Issues.{issues_at, issues_of, carried_by, is_issued, is_of, id_at}
use Rattle.s10_history.proofs.Numbering.{Contains-find}
use Rattle.s10_book.specs.Rules.{IsLegal, MayFollow}
use Rattle.s10_book.proofs.Carried.{made_by}
use Rattle.s10_ranges.specs.declared.lap.Lap.{Lap}
use Rattle.s10_ranges.specs.declared.lap.Lap.TheVariants.{First, Later}
use Rattle.s10_ranges.specs.declared.mark.Mark.{Mark}
use Rattle.s10_ranges.specs.declared.mark_move.MarkMove.{MarkMove}
use Rattle.s10_ranges.specs.declared.ranges.Ranges.{Ranges}
use Rattle.s10_ranges.specs.Mirror.{Mirrors, MirrorsAt}
use Rattle.s10_ranges.specs.Moves.{AreMoves, IsMoveOf}
use Rattle.s10_ranges.specs.Laps.{lap_of, mark_of, mark_after}
use Rattle.s10_ranges.specs.Sound.{AreSound}
use Rattle.s10_book.proofs.Carrying.{issues_upto, upto_next, picked_at, carried_at}
use Rattle.s10_book.proofs.Carrying.{issue_within}
use Rattle.s10_ranges.proofs.Following.{find_picked, found_number, issue_mirrors}
use Rattle.s10_ranges.proofs.Marked.{mark_at_issues, mark_held}
use Rattle.s10_book.proofs.Carrying.{at_picks}

-- The issuances of a history, followed by the first ones of the call after it.
abbrev pub issues_to : List Entry → Entry → ℕ → List Issuance
issues_to h e place = issues_of h ++ take place (issues_at (1 + length h) e)

to_upto : (h : List Entry) (e : Entry) (place : ℕ) → issues_to h e place ≡ issues_upto h e place
to_upto h e place = refl

-- The arrival of issuances.

issued_any : (e : Entry) (a b place : ℕ) (cs : List (ℕ × Id)) (x : Id)
    → is_issued (take place (map (made_by e a) cs)) x
    ≡ is_issued (take place (map (made_by e b) cs)) x
issued_any e a b zero cs x = refl
issued_any e a b (suc n) [] x = refl
issued_any e a b (suc n) (c ∷ cs) x = ap (λ (v : Bool). same_id c.1 x || v)
    (issued_any e a b n cs x)

lap_any : (e : Entry) (a b place : ℕ) (is : List Issuance) (r : Range)
    → lap_of (is ++ take place (issues_at a e)) r ≡ lap_of (is ++ take place (issues_at b e)) r
lap_any e a b place is r =
    let x : Id = id_at r r.last in
    ap (λ (v : Bool). cond v Later First)
    (list_any-append (is_of x) is (take place (issues_at a e))
    ∙ ap (λ (v : Bool). is_issued is x || v) (issued_any e a b place (carried_by e.outcome) x)
    ∙ sym (list_any-append (is_of x) is (take place (issues_at b e))))

-- An issuance has the same identifier at each arrival.
pub same_issued : (e : Entry) (a b place : ℕ) (i j : Issuance) → slice_get (issues_at a e) place
    ≡ Some i → slice_get (issues_at b e) place ≡ Some j → i.id ≡ j.id
same_issued e a b place i j at there =
    let one = carried_at e a place i at in
    let other = carried_at e b place j there in
    ap (λ (y : Issuance). y.id) (sym one.2)
    ∙ ap (λ (c : ℕ × Id). c.1) (same_Some one.0 other.0 (sym one.1 ∙ other.1))
    ∙ ap (λ (y : Issuance). y.id) other.2

-- There is an issuance at each arrival, if there is one at another.
pub never_missing : (e : Entry) (a b place : ℕ) (i : Issuance) → slice_get (issues_at a e) place
    ≡ Some i → slice_get (issues_at b e) place ≡ None → ⊥
never_missing e a b place i at none =
    let one = carried_at e a place i at in
    issue_within e b place (slice_get_within (carried_by e.outcome) place one.0 one.1) none

-- There is an issuance at each index below their number.
pub issue_there : (e : Entry) (arrival place : ℕ) → place < length (carried_by e.outcome)
    → (i : Issuance) × (slice_get (issues_at arrival e) place ≡ Some i)
issue_there e arrival place within = at (carried_by e.outcome) place within
  where
    at : (cs : List (ℕ × Id)) (k : ℕ) → k < length cs → (i : Issuance)
        × (slice_get (map (made_by e arrival) cs) k ≡ Some i)
    at [] k lt = absurd (omega (arith, lt))
    at (c ∷ cs) zero lt = (made_by e arrival c, refl)
    at (c ∷ cs) (suc k) lt = at cs k (omega (arith, lt))

-- One move.

-- Some range has the identifier of an issuance.
pub found_at : (h : List Entry) (t : Terms) (e : Entry) (place : ℕ) (i : Issuance) → IsLegal h t
    → MayFollow h t e → slice_get (issues_at (1 + length h) e) place ≡ Some i
    → (r : Range) × (find (overlaps i.id.service i.id.country i.id.serial i.id.serial) (ranges_of h)
    ≡ Some r)
found_at h t e place i legal may at =
    let one = carried_at e (1 + length h) place i at in
    let from = picked_at h t e place one.0 may one.1 in
    let P : Issuance → Type 0 =
    λ y. find (overlaps y.id.service y.id.country y.id.serial y.id.serial) (ranges_of h)
    ≡ Some from.range in (
      from.range,
      subst P one.2 (find_picked h t e.request.customer e.day (issues_upto h e place) one.0 legal
          from),
    )

-- A range that is found has a mark.
pub mark_found : (self : Ranges) (h : List Entry) (x : Id) (r : Range) → AreSound self.ranges.items
    → Mirrors self h
    → find (overlaps x.service x.country x.serial x.serial) self.ranges.items ≡ Some r
    → (0 < r.num) × (slice_get self.marks.items (r.num - 1) ≡ Some (mark_of (issues_of h) r))
mark_found self h x r sound m found =
    let test : Range → Bool = overlaps x.service x.country x.serial x.serial in
    let there = Contains-find test (ranges_of h) r (ap (find test) (sym m.ranges) ∙ found) in (
      (found_number test self.ranges.items r sound found).0,
      mark_held self h r sound m there,
    )

-- The range that is found and its lap give the move of an issuance.
pub is_move : (self : Ranges) (h : List Entry) (e : Entry) (place : ℕ) (x : Id) (r : Range)
    (k : Mark) (m : MarkMove) → AreSound self.ranges.items → Mirrors self h
    → find (overlaps x.service x.country x.serial x.serial) self.ranges.items ≡ Some r
    → slice_get self.marks.items (r.num - 1) ≡ Some k → m.num ≡ r.num
    → ((is : List Issuance) → k.lap ≡ lap_of is r → m.lap
    ≡ lap_of (is ++ take place (issues_at 0 e)) r) → m.mark ≡ mark_after r m.lap x.serial
    → IsMoveOf (ranges_of h) (issues_to h e place) x m
is_move self h e place x r k m sound mirrors found held num lap mark =
    let test : Range → Bool = overlaps x.service x.country x.serial x.serial in
    let same : k ≡ mark_of (issues_of h) r =
    same_Some k (mark_of (issues_of h) r) (sym held ∙ (mark_found self h x r sound mirrors
    found).1) in
    record {
      range = r;
      found = ap (find test) (sym mirrors.ranges) ∙ found;
      num = num;
      lap = lap (issues_of h) (ap (λ (y : Mark). y.lap) same)
          ∙ lap_any e 0 (1 + length h) place (issues_of h) r;
      mark = mark;
    }

-- Several moves.

at_push : {X : Type 0} (xs : List X) (y x : X) (k : ℕ) → slice_get (xs ++ y ∷ []) k ≡ Some x
    → (slice_get xs k ≡ Some x) ⊎ ((k ≡ length xs) × (y ≡ x))
at_push [] y x zero at = inr (refl, same_Some y x at)
at_push [] y x (suc k) at = absurd (none-some x at)
at_push (z ∷ xs) y x zero at = inl at
at_push (z ∷ xs) y x (suc k) at =
    elim (at_push xs y x k at) [
      | inl before ↦ inl before
      | inr here ↦ inr (ap suc here.0, here.1)
    ]

-- The moves are those of the first issuances of the call after a history.
pub record AreMovesTo (h : List Entry) (e : Entry) (place : ℕ) (moves : List MarkMove) :
    Type 0 where
  pub count : length moves ≡ place
  pub each : (k : ℕ) (i : Issuance) (m : MarkMove) → slice_get (issues_at (1 + length h) e) k
      ≡ Some i → slice_get moves k ≡ Some m → IsMoveOf (ranges_of h) (issues_to h e k) i.id m

-- One more move.
pub one_more : (h : List Entry) (e : Entry) (place : ℕ) (moves : List MarkMove) (m : MarkMove)
    → AreMovesTo h e place moves
    → ((i : Issuance) → slice_get (issues_at (1 + length h) e) place ≡ Some i
    → IsMoveOf (ranges_of h) (issues_to h e place) i.id m)
    → AreMovesTo h e (place + 1) (moves ++ m ∷ [])
one_more h e place moves m before next = record {
  count = omega (arith, length-append moves (m ∷ []), before.count);
  each = λ k i n at there.
      elim (at_push moves m n k there) [
        | inl old ↦ before.each k i n at old
        | inr new ↦
            let same : k ≡ place = new.0 ∙ before.count in
            let P : ℕ → Type 0 = λ j. slice_get (issues_at (1 + length h) e) j ≡ Some i in
            let Q : ℕ → Type 0 = λ j. IsMoveOf (ranges_of h) (issues_to h e j) i.id n in
            subst Q (sym same) (subst (IsMoveOf (ranges_of h) (issues_to h e place) i.id) new.1
            (next i (subst P same at)))
      ];
}

-- Setting the mark that a move gives mirrors its issuance.
pub move_mirrors : (old new : Ranges) (h : List Entry) (t : Terms) (e : Entry)
    (moves : List MarkMove) (place : ℕ) (m : MarkMove) → IsLegal h t → MayFollow h t e
    → AreMoves h e moves → slice_get moves place ≡ Some m → AreSound old.ranges.items
    → MirrorsAt (ranges_of h) (issues_upto h e place) old → new.ranges.items ≡ old.ranges.items
    → (0 < m.num → m.num ≤ length old.ranges.items → new.marks.items ≡ set old.marks.items
    (m.num - 1) m.mark) → MirrorsAt (ranges_of h) (issues_upto h e (place + 1)) new
move_mirrors old new h t e moves place m legal may all at sound before kept moved =
    let within : place < length (carried_by e.outcome) = omega (arith, slice_get_within moves place m at, all.count) in
    let there = issue_there e (1 + length h) place within in
    let c = carried_at e (1 + length h) place there.0 there.1 in
    let this : IsMoveOf (ranges_of h) (issues_to h e place) c.0.1 m =
    subst (λ (y : Id). IsMoveOf (ranges_of h) (issues_to h e place) y m)
    (ap (λ (y : Issuance). y.id) (sym c.2)) (all.each place there.0 m there.1 at) in
    let x : Id = c.0.1 in
    let Q : List Issuance → Type 0 = λ is. MirrorsAt (ranges_of h) is new in
    subst Q (sym (upto_next h e place c.0 c.1))
    (issue_mirrors old new h t e (1 + length h) (issues_upto h e place) c.0 legal sound
    (at_picks h t e place legal may) (picked_at h t e place c.0 may c.1) before kept
    (λ r k found held.
    let test : Range → Bool = overlaps x.service x.country x.serial x.serial in
    let here : find test (ranges_of h) ≡ Some r = ap (find test) (sym before.ranges) ∙ found in
    let same : this.range ≡ r = same_Some this.range r (sym this.found ∙ here) in
    let num = found_number test old.ranges.items r sound found in
    let mark : k ≡ mark_of (issues_upto h e place) r =
    same_Some k (mark_of (issues_upto h e place) r) (sym held
    ∙ mark_at_issues old (ranges_of h) (issues_upto h e place) r sound before
    (Contains-find test (ranges_of h) r here)) in
    let lap : m.lap ≡ k.lap = this.lap ∙ ap (lap_of (issues_to h e place)) same
    ∙ ap (λ (is : List Issuance). lap_of is r) (to_upto h e place)
    ∙ ap (λ (y : Mark). y.lap) (sym mark) in
    let at_num : m.num ≡ r.num = this.num ∙ ap (λ (y : Range). y.num) same in
    let to : m.mark ≡ mark_after r k.lap x.serial = this.mark
    ∙ ap₂ (λ (y : Range) (l : Lap). mark_after y l x.serial) same lap in
    moved (omega (arith, at_num, num.0)) (omega (arith, at_num, num.1))
    ∙ ap₂ (λ (n : ℕ) (v : Mark). set old.marks.items (n - 1) v) at_num to))
