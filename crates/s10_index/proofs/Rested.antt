-- The rests of ranges, and the free ones among them.
use Rattle.std.proofs.Common.{◌≡◌, ◌∙◌, ℕ, ◌≤◌, Bool, true, false, cond, not, ◌&&◌, List, Option, Some}
use Rattle.std.proofs.Common.{None, refl, sym, ap, arith, ◌<◌, ltb, eqb}
use Rattle.std.specs.Prelude.{find, Contains}
use Rattle.std.proofs.lemmas.Bool.{and_parts, ltb-true, eqb-true}
use Rattle.std.specs.Option.{option_map}
use Rattle.std.proofs.lemmas.Option.{none-some, same_Some}
use Rattle.s10_history.specs.declared.entry.Entry.{Entry}
use Rattle.s10_history.specs.declared.range.Range.{Range}
use Rattle.s10_history.specs.declared.issue.Issue.{Issue}
use Rattle.s10_history.specs.declared.issuance.Issuance.{Issuance}
use Rattle.s10_history.specs.History.{ranges_of, is_closed, is_held}
use Rattle.s10_history.specs.Issues.{issues_of, last_issuance_of, last_issue_of, pick_of, id_at}
use Rattle.s10_history.specs.Issues.{is_free_since}
use Rattle.s10_history.proofs.Issued.{free_last}
use Rattle.s10_history.proofs.Numbering.{numbered, found_passes, Contains-find}
use Rattle.s10_book.specs.Rules.{has_free_pick, is_free_range, is_free_after}
use Rattle.s10_book.proofs.Passing.{walk_on, walk_found, walk_out}
use Rattle.s10_ranges.specs.declared.mark.Mark.{Mark}
use Rattle.s10_ranges.specs.declared.ranges.Ranges.{Ranges}
use Rattle.s10_ranges.specs.Mirror.{Mirrors}
use Rattle.s10_ranges.proofs.Resting.{awake_narrows, passes_since}
use Rattle.s10_index.specs.declared.call_index.CallIndex.{CallIndex}
use Rattle.s10_index.specs.CallIndex.{Indexes}
use Rattle.s10_ranges.specs.declared.rest.Rest.{Rest}
use Rattle.s10_ranges.specs.declared.rest.Rest.TheVariants.{Closed}
use Rattle.s10_ranges.specs.Rests.{IsRestOf, rest_of, rest_by_issue, rests_on}
use Rattle.s10_ranges.specs.Rests.{is_awake, is_awake_after}

issued_by : (f : Issuance → Issue) → ((j : Issuance) → (f j).day ≡ j.day) → (o : Option Issuance)
    → (i : Issue) → option_map f o ≡ Some i
    → (j : Issuance) × (o ≡ Some j) × (i.day ≤ j.day)
issued_by f same None i is = absurd (none-some i is)
issued_by f same (Some j) i is =
    let e : (f j).day ≡ i.day = ap (λ (x : Issue). x.day) (same_Some (f j) i is) in
    (j, refl, omega (arith, e, same j))

-- The rest that is computed for a range is one of it.
pub rest_is : (h : List Entry) (r : Range) → IsRestOf h r (rest_of h r)
rest_is h r = at (is_closed h r.num) refl (last_issue_of h (id_at r (pick_of (issues_of h) r))) refl
  where
    at : (b : Bool) → is_closed h r.num ≡ b → (o : Option Issue)
        → last_issue_of h (id_at r (pick_of (issues_of h) r)) ≡ o
        → IsRestOf h r (cond b Closed (rest_by_issue (pick_of (issues_of h) r) o))
    at true closed o is = closed
    at false left None is = refl
    at false left (Some i) is = passes_since (issues_of h) (id_at r (pick_of (issues_of h) r)) i.day
        (issued_by _ (λ j. refl)
        (last_issuance_of (issues_of h) (id_at r (pick_of (issues_of h) r))) i is)

-- A range that is held is free if it is open and its pick is free.
pub free_if_held : (h : List Entry) (customer : ℕ) (s c : ℕ × ℕ) (day n : ℕ) (r : Range)
    → is_held customer s c r ≡ true
    → is_free_range h customer s c day n r
    ≡ (not (is_closed h r.num) && has_free_pick (issues_of h) day n r)
free_if_held h customer s c day n r held =
    ap (λ (b : Bool). (b && not (is_closed h r.num)) && has_free_pick (issues_of h) day n r) held

-- The test of the last issue of a pick.
pub free_by_issue : (h : List Entry) (r : Range) (day n pick : ℕ) (o : Option Issue) (b : Bool)
    → pick ≡ pick_of (issues_of h) r → o ≡ last_issue_of h (id_at r pick)
    → b ≡ is_free_since day n (option_map (λ (i : Issue). i.day) o)
    → b ≡ has_free_pick (issues_of h) day n r
free_by_issue h r day n pick o b at is test =
    test ∙ ap (λ (l : Option Issue). is_free_since day n (option_map (λ (i : Issue). i.day) l))
    (is ∙ ap (λ v. last_issue_of h (id_at r v)) at)
    ∙ free_last day n (last_issuance_of (issues_of h) (id_at r (pick_of (issues_of h) r))) _
    (λ j. refl)

-- What is found among the awake ranges is held, and its number is above the given one.
pub awake_found : (marks : List Mark) (rests : List Rest) (after customer : ℕ) (s c : ℕ × ℕ)
    (day n : ℕ) (rs : List Range) (r : Range)
    → find (is_awake_after marks rests after customer s c day n) rs ≡ Some r
    → (after < r.num) × (is_held customer s c r ≡ true)
awake_found marks rests after customer s c day n rs r found =
    let one = and_parts (ltb after r.num) (is_awake marks rests customer s c day n r)
    (found_passes (is_awake_after marks rests after customer s c day n) rs r found) in
    let two = and_parts (is_held customer s c r) (not (rests_on marks rests day n r)) one.1 in
    (ltb-true after r.num one.0, two.0)

-- If the next awake range is free, it is the next free one.
pub awake_free : (h : List Entry) (index : CallIndex) (after customer : ℕ) (s c : ℕ × ℕ)
    (day n : ℕ) (r : Range) → Indexes index h
    → find (is_awake_after index.ranges.marks.items index.rests.list.items after customer s c day n)
    (ranges_of h) ≡ Some r
    → (not (is_closed h r.num) && has_free_pick (issues_of h) day n r) ≡ true
    → find (is_free_after h after customer s c day n) (ranges_of h) ≡ Some r
awake_free h index after customer s c day n r indexes found free =
    walk_found (is_awake index.ranges.marks.items index.rests.list.items customer s c day n)
    (is_free_range h customer s c day n) after (ranges_of h) r (numbered 1 h)
    (awake_narrows h index.ranges index.rests.list.items customer s c day n index.ranges.sound
    indexes.ranges indexes.rests) found
    (free_if_held h customer s c day n r
    (awake_found index.ranges.marks.items index.rests.list.items after customer s c day n
    (ranges_of h) r found).1 ∙ free)

-- If it is not free, the search continues after it.
pub awake_used : (h : List Entry) (index : CallIndex) (after customer : ℕ) (s c : ℕ × ℕ)
    (day n : ℕ) (r : Range) → Indexes index h
    → find (is_awake_after index.ranges.marks.items index.rests.list.items after customer s c day n)
    (ranges_of h) ≡ Some r
    → (not (is_closed h r.num) && has_free_pick (issues_of h) day n r) ≡ false
    → find (is_free_after h after customer s c day n) (ranges_of h)
    ≡ find (is_free_after h r.num customer s c day n) (ranges_of h)
awake_used h index after customer s c day n r indexes found used =
    walk_on (is_awake index.ranges.marks.items index.rests.list.items customer s c day n)
    (is_free_range h customer s c day n) after (ranges_of h) r (numbered 1 h)
    (awake_narrows h index.ranges index.rests.list.items customer s c day n index.ranges.sound
    indexes.ranges indexes.rests) found
    (free_if_held h customer s c day n r
    (awake_found index.ranges.marks.items index.rests.list.items after customer s c day n
    (ranges_of h) r found).1 ∙ used)

-- If no range is awake, none is free.
pub awake_none : (h : List Entry) (index : CallIndex) (after customer : ℕ) (s c : ℕ × ℕ)
    (day n : ℕ) → Indexes index h
    → find (is_awake_after index.ranges.marks.items index.rests.list.items after customer s c day n)
    (ranges_of h) ≡ None
    → find (is_free_after h after customer s c day n) (ranges_of h) ≡ None
awake_none h index after customer s c day n indexes none =
    walk_out (is_awake index.ranges.marks.items index.rests.list.items customer s c day n)
    (is_free_range h customer s c day n) after (ranges_of h)
    (awake_narrows h index.ranges index.rests.list.items customer s c day n index.ranges.sound
    indexes.ranges indexes.rests) none

-- The rest of a range is set to its own.
pub rest_set : (h : List Entry) (ranges : Ranges) (num : ℕ) (r : Range) → Mirrors ranges h
    → find (λ (x : Range). eqb x.num num) ranges.ranges.items ≡ Some r
    → Contains (ranges_of h) r × (r.num ≡ num)
rest_set h ranges num r mirrors found =
    let there : find (λ (x : Range). eqb x.num num) (ranges_of h) ≡ Some r =
    ap (find (λ (x : Range). eqb x.num num)) (sym mirrors.ranges) ∙ found in (
      Contains-find (λ (x : Range). eqb x.num num) (ranges_of h) r there,
      eqb-true r.num num
          (found_passes (λ (x : Range). eqb x.num num) (ranges_of h) r there),
    )
