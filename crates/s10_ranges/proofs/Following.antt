-- How a kept call changes the ranges that are held.
use Rattle.std.proofs.Common.{append-nil, ◌≡◌, ◌∙◌, ℕ, zero, suc, ◌+◌, ◌-◌, ◌<◌, ◌≤◌, Bool, true}
use Rattle.std.proofs.Common.{List, [], ◌∷◌, ◌++◌, map, set, Option, Some, None}
use Rattle.std.proofs.Common.{length, get_or, refl, sym, ap, ap₂, subst, arith, inl, inr}
use Rattle.std.specs.Prelude.{find, option_to_list, slice_get, Contains}
use Rattle.std.proofs.lemmas.Bool.{and_parts, leb-true, and_from, cases_order, false_from_ne_true}
use Rattle.std.proofs.lemmas.Bool.{le-leb}
use Rattle.std.proofs.lemmas.Option.{none-some, same_Some}
use Rattle.std.proofs.lemmas.List.{map-append}
use Rattle.s10_core.specs.declared.id.Id.{Id}
use Rattle.s10_wire.specs.declared.body.Body.{Body}
use Rattle.s10_wire.specs.declared.body.Body.TheVariants.{Grant}
use Rattle.s10_wire.specs.declared.outcome.Outcome.{Outcome}
use Rattle.s10_wire.specs.declared.outcome.Outcome.TheVariants.{Granted}
use Rattle.s10_history.specs.declared.entry.Entry.{Entry}
use Rattle.s10_history.specs.declared.range.Range.{Range}
use Rattle.s10_history.specs.declared.issuance.Issuance.{Issuance}
use Rattle.s10_history.specs.Settings.{Terms}
use Rattle.s10_history.specs.History.{ranges_of, range_of_grant, overlaps, lies_in}
use Rattle.s10_history.specs.Issues.{issues_of}
use Rattle.s10_book.specs.Rules.{IsLegal, MayFollow, body_answer}
use Rattle.s10_history.proofs.Numbering.{Contains-find, found_passes}
use Rattle.s10_history.proofs.Push.{ranges_from-push, length-ranges_from}
use Rattle.s10_book.proofs.Own.{new_ordered, lies_picked}
use Rattle.s10_book.proofs.Carried.{made_by, IsPicked}
use Rattle.s10_book.proofs.Marks.{picked_mark}
use Rattle.s10_book.proofs.Apart.{none_pass, apart, granted_parts, granted_when}
use Rattle.s10_ranges.specs.declared.mark.Mark.{Mark}
use Rattle.s10_ranges.specs.declared.ranges.Ranges.{Ranges}
use Rattle.s10_ranges.specs.declared.lap.Lap.TheVariants.{First}
use Rattle.s10_ranges.specs.Mirror.{MirrorsAt}
use Rattle.s10_ranges.specs.Laps.{lap_of, mark_of, mark_after}
use Rattle.s10_ranges.specs.Sound.{AreSound}
use Rattle.s10_ranges.proofs.Found.{find_none, find_first}
use Rattle.s10_ranges.proofs.Marked.{mark_at_issues}
use Rattle.s10_ranges.proofs.Orders.{at_place}
use Rattle.s10_book.proofs.Carrying.{AtPicks}
use Rattle.s10_ranges.proofs.Turning.{in_order, none_granted, mark_new, mark_inside, mark_outside}

-- A range that is found has the number of one of the list.
pub found_number : (p : Range → Bool) (rs : List Range) (r : Range) → AreSound rs
    → find p rs ≡ Some r → (0 < r.num) × (r.num ≤ length rs)
found_number p rs r sound found =
    let there = Contains-find p rs r found in
    let at = sound there.0 r there.1 in
    let e : (get_or rs there.0 r).num ≡ r.num = ap (λ (x : Range). x.num) there.2 in
    (omega (arith, at.num, e), omega (arith, at.num, e, there.1))

-- A range that is found for an identifier does not end before its serial.
pub found_reaches : (s c : ℕ × ℕ) (n : ℕ) (rs : List Range) (r : Range) → find (overlaps s c n n) rs
    ≡ Some r → n ≤ r.last
found_reaches s c n rs r found =
    let a = and_parts _ _ (found_passes (overlaps s c n n) rs r found) in
    let b = and_parts _ _ a.0 in
    leb-true n r.last b.1

-- What is known of the range of a Done Grant.
pub record IsNext (h : List Entry) (e : Entry) (r : Range) : Type 0 where
  pub made : range_of_grant (length (ranges_of h) + 1) e.request.body e.outcome ≡ Some r
  pub num : r.num ≡ length (ranges_of h) + 1
  pub proper : r.first ≤ r.last
  pub apart : find (overlaps r.service r.country r.first r.last) (ranges_of h) ≡ None

next_made : (h : List Entry) (customer day interval num : ℕ) (b : Body) (o : Outcome) (r : Range)
    → o ≡ body_answer h customer b day interval → o ≡ Granted num
    → range_of_grant num b (Granted num) ≡ Some r
    → (range_of_grant (length (ranges_of h) + 1) b o ≡ Some r) × (r.num ≡ length (ranges_of h) + 1)
    × (find (overlaps r.service r.country r.first r.last) (ranges_of h) ≡ None)
next_made h customer day interval num (Grant holder s c first last) o r is done made =
    let count : length (ranges_of h) + 1 ≡ num = granted_parts _ _ _ _ _ (sym is ∙ done) in
    let none = none_pass (overlaps s c first last) (ranges_of h)
    (granted_when _ _ _ _ _ (sym is ∙ done)) in
    let same = same_Some _ _ made in
    let P : Range → Type 0 = λ y. find (overlaps y.service y.country y.first y.last) (ranges_of h)
    ≡ None in (
      ap₂ (λ (n : ℕ) (y : Outcome). range_of_grant n (Grant holder s c first last) y) count done
          ∙ made,
      omega (arith, count, ap (λ (y : Range). y.num) same),
      subst P same (find_none (overlaps s c first last) (ranges_of h) none),
    )
next_made h customer day interval num b o r is done made = absurd (none-some r made)

pub is_next : (h : List Entry) (t : Terms) (e : Entry) (num : ℕ) (r : Range) → MayFollow h t e
    → e.outcome ≡ Granted num → range_of_grant num e.request.body (Granted num) ≡ Some r
    → IsNext h e r
is_next h t e num r may done made =
    let all = next_made h e.request.customer e.day t.interval num e.request.body e.outcome r
    may.right done made in
    record {
      made = all.0;
      num = all.1;
      proper = new_ordered h e.request.customer e.day t.interval
          (length (ranges_of h) + 1) e.request.body e.outcome r may.right all.0;
      apart = all.2;
    }

-- Two functions that agree on each element give the same list.
pub same_map : {X : Type 0} (f g : Range → X) (rs : List Range)
    → ((k : ℕ) (d : Range) → k < length rs → f (get_or rs k d) ≡ g (get_or rs k d))
    → map f rs ≡ map g rs
same_map f g [] same = refl
same_map f g (x ∷ xs) same =
    ap₂ ◌∷◌ (same 0 x (omega arith)) (same_map f g xs (λ k d lt. same (suc k) d (omega arith)))

-- Two functions that agree on each element but one give the same list, except at its index.
pub set_map : {X : Type 0} (f g : Range → X) (rs : List Range) (k : ℕ) (v : X) → k < length rs
    → ((d : Range) → g (get_or rs k d) ≡ v)
    → ((i : ℕ) (d : Range) → i < length rs → (i ≡ k → ⊥) → f (get_or rs i d) ≡ g (get_or rs i d))
    → set (map f rs) k v ≡ map g rs
set_map f g [] k v lt here same = absurd (omega arith)
set_map f g (x ∷ xs) zero v lt here same =
    ap₂ ◌∷◌ (sym (here x))
    (same_map f g xs (λ i d h. same (suc i) d (omega arith) (λ e. omega (arith, e))))
set_map f g (x ∷ xs) (suc k) v lt here same =
    ap₂ ◌∷◌ (same 0 x (omega arith) (λ e. omega (arith, e))) (set_map f g xs k v (omega arith) here
    (λ i d h ne. same (suc i) d (omega arith) (λ e. ne (omega (arith, e)))))

-- The mark of a range that issued no serial.
abbrev pub first_mark : Range → Mark
first_mark r = record { serial = r.first; lap = First }

-- The ranges and marks after a Done Grant.
pub grant_ranges : (h : List Entry) (e : Entry) (r : Range) → IsNext h e r → ranges_of (h ++ e ∷ [])
    ≡ ranges_of h ++ r ∷ []
grant_ranges h e r next =
    let turned : 1 + length (ranges_of h) ≡ length (ranges_of h) + 1 = omega arith in
    ranges_from-push 1 h e ∙ ap (λ (o : Option Range). ranges_of h ++ option_to_list o)
    (ap (λ (n : ℕ). range_of_grant n e.request.body e.outcome) turned ∙ next.made)

pub grant_marks : (h : List Entry) (t : Terms) (e : Entry) (num : ℕ) (r : Range) → IsLegal h t
    → MayFollow h t e → e.outcome ≡ Granted num → IsNext h e r
    → map (mark_of (issues_of (h ++ e ∷ []))) (ranges_of (h ++ e ∷ []))
    ≡ map (mark_of (issues_of h)) (ranges_of h) ++ first_mark r ∷ []
grant_marks h t e num r legal may done next =
    let f : Range → Mark = mark_of (issues_of (h ++ e ∷ [])) in
    let old : map f (ranges_of h) ≡ map (mark_of (issues_of h)) (ranges_of h) =
    ap (λ is. map (mark_of is) (ranges_of h)) (none_granted h e num done) in
    ap (map f) (grant_ranges h e r next) ∙ map-append f (ranges_of h) (r ∷ [])
    ∙ ap₂ (λ (l : List Mark) (m : Mark). l ++ m ∷ []) old (mark_new h t e num r legal may done
    next.made)

-- A call that is no Done Grant adds no range.
none_made : (n : ℕ) (b : Body) (o : Outcome) → ((m : ℕ) → o ≡ Granted m → ⊥) → range_of_grant n b o
    ≡ None
none_made n (Grant holder s c first last) (Granted m) other = absurd (other m refl)
none_made n b o other = refl

pub same_ranges : (h : List Entry) (e : Entry) → ((m : ℕ) → e.outcome ≡ Granted m → ⊥)
    → ranges_of (h ++ e ∷ []) ≡ ranges_of h
same_ranges h e other =
    ranges_from-push 1 h e ∙ ap (λ (o : Option Range). ranges_of h ++ option_to_list o)
    (none_made (1 + length (ranges_of h)) e.request.body e.outcome other)
    ∙ append-nil (ranges_of h)

again : (xs : List Range) (k : ℕ) (d : Range) → k < length xs → get_or xs k (get_or xs k d)
    ≡ get_or xs k d
again [] k d lt = absurd (omega arith)
again (x ∷ xs) zero d lt = refl
again (x ∷ xs) (suc k) d lt = again xs k d (omega arith)

-- After a call that is no Done Grant, ranges with the right marks mirror the history.
pub other_mirrors : (r : Ranges) (h : List Entry) (e : Entry) → ((m : ℕ) → e.outcome ≡ Granted m
    → ⊥) → MirrorsAt (ranges_of h) (issues_of (h ++ e ∷ [])) r → MirrorsAt (ranges_of (h ++ e ∷ []))
    (issues_of (h ++ e ∷ [])) r
other_mirrors r h e no_grant m =
    let P : List Range → Type 0 = λ rs. MirrorsAt rs (issues_of (h ++ e ∷ [])) r in
    subst P (sym (same_ranges h e no_grant)) m

-- After a Done Grant, ranges with its range and its first serial as the mark mirror the history.
pub grant_mirrors : (old new : Ranges) (h : List Entry) (t : Terms) (e : Entry) (num : ℕ)
    (r : Range) → IsLegal h t → MayFollow h t e → length h < 4294967295
    → MirrorsAt (ranges_of h) (issues_of h) old
    → e.outcome ≡ Granted num → range_of_grant num e.request.body (Granted num) ≡ Some r
    → (length old.ranges.items < 4294967295 → r.num ≡ length old.ranges.items + 1 → r.first ≤ r.last
    → find (overlaps r.service r.country r.first r.last) old.ranges.items ≡ None
    → (new.ranges.items ≡ old.ranges.items ++ r ∷ [])
    × (new.marks.items ≡ old.marks.items ++ first_mark r ∷ []))
    → MirrorsAt (ranges_of (h ++ e ∷ [])) (issues_of (h ++ e ∷ [])) new
grant_mirrors old new h t e num r legal may few m done made pushed =
    let next = is_next h t e num r may done made in
    let count : length old.ranges.items ≡ length (ranges_of h) = ap length m.ranges in
    let both = pushed (omega (arith, count, length-ranges_from 1 h, few))
    (omega (arith, next.num, count)) next.proper
    (ap (find (overlaps r.service r.country r.first r.last)) m.ranges ∙ next.apart) in
    record {
      ranges = both.0 ∙ ap (λ (l : List Range). l ++ r ∷ []) m.ranges
          ∙ sym (grant_ranges h e r next);
      marks = both.1 ∙ ap (λ (l : List Mark). l ++ first_mark r ∷ []) m.marks
          ∙ sym (grant_marks h t e num r legal may done next);
    }

-- Two ranges that have the identifier have the same index.
one_place : (h : List Entry) (t : Terms) (x : Id) (i k : ℕ) (d : Range) → IsLegal h t
    → i < length (ranges_of h) → k < length (ranges_of h)
    → lies_in (get_or (ranges_of h) i d) x ≡ true → lies_in (get_or (ranges_of h) k d) x ≡ true
    → i ≡ k
one_place h t x i k d legal lt lt' li lk =
    elim (cases_order i k) [
      | inl e ↦ e
      | inr w ↦ elim w [
        | inl below ↦ absurd (apart h t legal i k d below lt' x li lk)
        | inr above ↦ absurd (apart h t legal k i d above lt x lk li)
      ]
    ]

-- The range of a pick is found by its identifier.
pub find_picked : (h : List Entry) (t : Terms) (customer day : ℕ) (is : List Issuance) (c : ℕ × Id)
    → IsLegal h t → (from : IsPicked (ranges_of h) customer day t.interval is c)
    → find (overlaps c.1.service c.1.country c.1.serial c.1.serial) (ranges_of h) ≡ Some from.range
find_picked h t customer day is c legal from =
    let rs : List Range = ranges_of h in
    let x : Id = c.1 in
    let r : Range = from.range in
    let lies : lies_in r x ≡ true = lies_picked h t customer day t.interval is c legal from in
    let k : ℕ = from.there.0 in
    let lt : k < length rs = from.there.1 in
    let own : get_or rs k r ≡ r = from.there.2 in
    let lies_there : (d : Range) → lies_in (get_or rs k d) x ≡ true =
    λ d. ap (λ (s : Range). lies_in s x) (at_place rs k d r lt own) ∙ lies in
    find_first (overlaps x.service x.country x.serial x.serial) rs k r lt own
    (and_from _ _ lies (le-leb x.serial x.serial (omega arith)))
    (λ i d below. false_from_ne_true (overlaps x.service x.country x.serial x.serial
    (get_or rs i d)) (λ also.
    let both = and_parts _ _ also in
    let e' : i ≡ k = one_place h t x i k d legal (omega (arith, below, lt)) lt both.0
    (lies_there d) in omega (arith, e', below)))

-- Advancing the mark of a range mirrors the issuance of its pick.
pub issue_mirrors : (old new : Ranges) (h : List Entry) (t : Terms) (e : Entry) (arrival : ℕ)
    (is : List Issuance) (c : ℕ × Id) → IsLegal h t → AreSound old.ranges.items
    → AtPicks (ranges_of h) is
    → IsPicked (ranges_of h) e.request.customer e.day t.interval is c
    → MirrorsAt (ranges_of h) is old → new.ranges.items ≡ old.ranges.items
    → ((r : Range) (m : Mark) → find (overlaps c.1.service c.1.country c.1.serial c.1.serial)
    old.ranges.items ≡ Some r → slice_get old.marks.items (r.num - 1) ≡ Some m
    → new.marks.items ≡ set old.marks.items (r.num - 1) (mark_after r m.lap c.1.serial))
    → MirrorsAt (ranges_of h) (is ++ made_by e arrival c ∷ []) new
issue_mirrors old new h t e arrival is c legal sound turns from m kept turned =
    let rs : List Range = ranges_of h in
    let x : Id = c.1 in
    let y : Issuance = made_by e arrival c in
    let r : Range = from.range in
    let lies : lies_in r x ≡ true = lies_picked h t e.request.customer e.day t.interval is c legal
    from in
    let k : ℕ = from.there.0 in
    let lt : k < length rs = from.there.1 in
    let own : get_or rs k r ≡ r = from.there.2 in
    let at : (d : Range) → get_or rs k d ≡ r = λ d. at_place rs k d r lt own in
    let lies_there : (d : Range) → lies_in (get_or rs k d) x ≡ true =
    λ d. ap (λ (s : Range). lies_in s x) (at d) ∙ lies in
    let found : find (overlaps x.service x.country x.serial x.serial) rs ≡ Some r =
    find_picked h t e.request.customer e.day is c legal from in
    let sound' : AreSound rs = subst AreSound m.ranges sound in
    let num = sound' k r lt in
    let place : r.num - 1 ≡ k = omega (arith, num.num, ap (λ (s : Range). s.num) own) in
    let v : Mark = mark_after r (lap_of is r) x.serial in
    let f : Range → Mark = mark_of (is ++ y ∷ []) in
    let moved_one : f r ≡ v = mark_inside r is y (turns r from.there) lies
    (picked_mark h t e.request.customer e.day t.interval is c r legal from from.there lies) in
    let moved : set (map (mark_of is) rs) k v ≡ map f rs =
    set_map (mark_of is) f rs k v lt (λ d. ap f (at d) ∙ moved_one)
    (λ i d in' ne.
    let s : Range = get_or rs i d in
    let there : Contains rs s = (i, in', again rs i d in') in
    sym (mark_outside s is y (in_order h t s legal there) (turns s there)
    (false_from_ne_true (lies_in s x)
    (λ also. ne (one_place h t x i k d legal in' lt also (lies_there d)))))) in
    record {
      ranges = kept ∙ m.ranges;
      marks = turned r (mark_of is r) (ap (find (overlaps x.service x.country x.serial x.serial))
          m.ranges ∙ found) (mark_at_issues old rs is r sound m from.there)
          ∙ ap₂ (λ (l : List Mark) (n : ℕ). set l n v) m.marks place ∙ moved;
    }
