-- Successive Draws, over a list of issuances that grows with each of them.
use Rattle.std.proofs.Common.{◌≡◌, ℕ, zero, suc, true, false, List, [], ◌∷◌, ◌++◌, refl, sym, ap}
use Rattle.std.proofs.Common.{◌∙◌, inl, inr, subst}
use Rattle.std.specs.Prelude.{find, AllPairs, Contains}
use Rattle.std.specs.Option.{option_map}
use Rattle.std.proofs.lemmas.Bool.{both_ways, cases_Bool}
use Rattle.s10_core.specs.declared.id.Id.{Id}
use Rattle.s10_history.specs.declared.entry.Entry.{Entry}
use Rattle.s10_history.specs.declared.range.Range.{Range}
use Rattle.s10_history.specs.declared.issuance.Issuance.{Issuance}
use Rattle.s10_history.specs.declared.candidate.Candidate.{Candidate}
use Rattle.s10_history.specs.Settings.{Terms}
use Rattle.s10_history.specs.History.{ranges_of, lies_in}
use Rattle.s10_history.specs.Issues.{issues_of, is_of, last_issuance_of, is_free_since, pick_of}
use Rattle.s10_history.specs.Issues.{id_at, serial_after, serial_after_steps, pick_after, issue_of}
use Rattle.s10_history.specs.Issues.{with_picks, candidate_after_of, last_issue_of}
use Rattle.s10_book.specs.Rules.{IsLegal, has_free_pick}
use Rattle.s10_book.proofs.Picking.{then_same, picks}
use Rattle.s10_book.proofs.Apart.{Apart}
use Rattle.s10_book.proofs.Own.{lies_at}
use Rattle.s10_book.proofs.Free.{id_equal}
use Rattle.s10_history.proofs.Issued.{last_issuance_of-push}
use Rattle.s10_history.proofs.Numbering.{Contains-find}
use Rattle.s10_book.proofs.Marks.{Turns, pick_turns, turns_outside, turns_inside, mark_step}
use Rattle.s10_book.proofs.Marks.{one_range, turns_pick, all_at_pick}

steps_from : (r : Range) (m k : ℕ) → serial_after_steps r (serial_after r m) k ≡ serial_after_steps
    r m (suc k)
steps_from r m zero = refl
steps_from r m (suc k) = ap (serial_after r) (steps_from r m k)

lies_mark : (r : Range) (is : List Issuance) (m : ℕ) → Turns r is m → lies_in r (id_at r m) ≡ true
lies_mark r is m turns = lies_at r m (record { low = turns.low; high = turns.high })

-- The mark after k further picks of the range.
pub turns_with : (r : Range) (is : List Issuance) (m k : ℕ) → Turns r is m
    → Turns r (with_picks r is k) (serial_after_steps r m k)
turns_with r is m zero turns = turns
turns_with r is m (suc k) turns =
    let y : Issuance = issue_of (id_at r (pick_of is r)) in
    let at : pick_of is r ≡ m = pick_turns r is m turns in
    let lies : lies_in r (id_at r (pick_of is r)) ≡ true =
    (let P : ℕ → Type 0 = λ s. lies_in r (id_at r s) ≡ true in
    subst P (sym at) (lies_mark r is m turns)) in
    let next : Turns r (is ++ issue_of (id_at r (pick_of is r)) ∷ []) (serial_after r m) =
    turns_inside r is (issue_of (id_at r (pick_of is r))) m lies at turns in
    let P : ℕ → Type 0 = Turns r (with_picks r (is ++ issue_of (id_at r (pick_of is r)) ∷ []) k) in
    subst P (steps_from r m k) (turns_with r (is ++ issue_of (id_at r (pick_of is r)) ∷ [])
    (serial_after r m) k next)

-- The candidate after k further picks is the serial k steps after the pick.
pub candidate_after_is : (h : List Entry) (t : Terms) (r : Range) (k : ℕ) → IsLegal h t
    → Contains (ranges_of h) r
    → candidate_after_of h r k ≡ record {
      serial = serial_after_steps r (pick_of (issues_of h) r) k;
      issue = last_issue_of h (id_at r (serial_after_steps r (pick_of (issues_of h) r) k));
    }
candidate_after_is h t r k legal there =
    let m : ℕ = pick_of (issues_of h) r in
    let f : ℕ → Candidate = λ s. record { serial = s; issue = last_issue_of h (id_at r s) } in
    ap f (pick_turns r (with_picks r (issues_of h) k)
    (serial_after_steps r (pick_of (issues_of h) r) k)
    (turns_with r (issues_of h) (pick_of (issues_of h) r) k (all_at_pick h t legal r there)))

-- The ranges are ready over the issuances so far if each has its pick as its mark.
abbrev pub Ready : List Range → List Issuance → Type 0
Ready rs is = (r : Range) → Contains rs r → Turns r is (pick_of is r)

lies_pick : (rs : List Range) (is : List Issuance) (r : Range) (x : Id) → Ready rs is
    → Contains rs r → x ≡ id_at r (pick_of is r) → lies_in r x ≡ true
lies_pick rs is r x ready there e = let P : Id → Type 0 = λ y. lies_in r y ≡ true in
    subst P (sym e) (lies_mark r is (pick_of is r) (ready r there))

-- A pick of one range lies in no other.
pub outside_other : (rs : List Range) (is : List Issuance) (r s : Range) (x : Id)
    → AllPairs Apart rs → Ready rs is → Contains rs r → Contains rs s → (s ≡ r → ⊥)
    → x ≡ id_at s (pick_of is s) → lies_in r x ≡ false
outside_other rs is r s x pairs ready in_r in_s other e =
    elim (cases_Bool (lies_in r x)) [
      | inl in' ↦ absurd
          (other (one_range rs s r x pairs in_s in_r (lies_pick rs is s x ready in_s e) in'))
      | inr out ↦ out
    ]

-- A pick of one range leaves all of them ready.
pub ready_next : (rs : List Range) (is : List Issuance) (s : Range) (y : Issuance)
    → AllPairs Apart rs → Ready rs is → Contains rs s → y.id ≡ id_at s (pick_of is s)
    → Ready rs (is ++ y ∷ [])
ready_next rs is s y pairs ready in_s e r in_r =
    let at : lies_in r y.id ≡ true → y.id.serial ≡ pick_of is r = λ lies.
    let same : s ≡ r = one_range rs s r y.id pairs in_s in_r (lies_pick rs is s y.id ready in_s e)
    lies in
    ap (λ (x : Id). x.serial) e ∙ ap (pick_of is) same in
    turns_pick r (is ++ y ∷ []) (
      pick_after r (pick_of is r) y.id,
      mark_step r is y (pick_of is r) at (ready r in_r),
    )

-- An issuance outside a range leaves its pick unchanged.
pub pick_outside : (r : Range) (is : List Issuance) (y : Issuance) → Turns r is (pick_of is r)
    → lies_in r y.id ≡ false → pick_of (is ++ y ∷ []) r ≡ pick_of is r
pick_outside r is y turns out = pick_turns r (is ++ y ∷ []) (pick_of is r)
    (turns_outside r is y (pick_of is r) out turns)

-- An issuance leaves the last issuance of each other identifier unchanged.
pub last_other : (is : List Issuance) (y : Issuance) (x : Id) → (y.id ≡ x → ⊥)
    → last_issuance_of (is ++ y ∷ []) x ≡ last_issuance_of is x
last_other is y x other =
    elim (cases_Bool (is_of x y)) [
      | inl same ↦ absurd (other (id_equal y.id x same))
      | inr apart_id ↦ last_issuance_of-push is y x ∙ rw apart_id refl
    ]

pub last_outside : (r : Range) (is : List Issuance) (y : Issuance) (x : Id) → lies_in r y.id ≡ false
    → lies_in r x ≡ true → last_issuance_of (is ++ y ∷ []) x ≡ last_issuance_of is x
last_outside r is y x out in' =
    last_other is y x (λ e. both_ways (lies_in r y.id) out (let P : Id → Type 0 = λ z. lies_in r z
    ≡ true in subst P (sym e) in'))

-- An issuance outside a range does not change whether its pick is free.
pub free_outside : (r : Range) (is : List Issuance) (y : Issuance) (day n : ℕ)
    → Turns r is (pick_of is r) → lies_in r y.id ≡ false → has_free_pick (is ++ y ∷ []) day n r
    ≡ has_free_pick is day n r
free_outside r is y day n turns out =
    ap (λ s. is_free_since day n (option_map (λ (i : Issuance). i.day)
    (last_issuance_of (is ++ y ∷ []) (id_at r s)))) (pick_outside r is y turns out)
    ∙ ap (λ o. is_free_since day n (option_map (λ (i : Issuance). i.day) o))
    (last_outside r is y (id_at r (pick_of is r)) out (lies_mark r is (pick_of is r) turns))

-- The first range gives its pick if that is free.
pub picks_here : (made : Id → Issuance) (day n : ℕ) (r : Range) (rs : List Range)
    (is : List Issuance) (k : ℕ) → has_free_pick is day n r ≡ true
    → picks made day n (r ∷ rs) is (suc k) ≡ option_map (λ xs. id_at r (pick_of is r) ∷ xs)
    (picks made day n (r ∷ rs) (is ++ made (id_at r (pick_of is r)) ∷ []) k)
picks_here made day n r rs is k free = rw free refl

-- A range whose pick is not free gives none, regardless of the others.
pub picks_past : (made : Id → Issuance) (day n : ℕ) (all : List Range) (r : Range) (rs : List Range)
    → ((x : Id) → (made x).id ≡ x) → AllPairs Apart all → Contains all r
    → ((s : Range) → Contains rs s → Contains all s × (s ≡ r → ⊥))
    → (is : List Issuance) (k : ℕ) → Ready all is → has_free_pick is day n r ≡ false
    → picks made day n (r ∷ rs) is k ≡ picks made day n rs is k
picks_past made day n all r rs same pairs there others is zero ready taken = refl
picks_past made day n all r rs same pairs there others is (suc k) ready taken =
    rw taken
    (then_same (find (has_free_pick is day n) rs) _ _
    (λ s found.
    let y : Issuance = made (id_at s (pick_of is s)) in
    let other = others s (Contains-find (has_free_pick is day n) rs s found) in
    let out : lies_in r (made (id_at s (pick_of is s))).id ≡ false =
    outside_other all is r s _ pairs ready there other.0 other.1
    (same (id_at s (pick_of is s))) in
    ap (option_map (λ xs. id_at s (pick_of is s) ∷ xs))
    (picks_past made day n all r rs same pairs there others (is ++ made (id_at s (pick_of is s))
    ∷ []) k
    (ready_next all is s (made (id_at s (pick_of is s))) pairs ready other.0
    (same (id_at s (pick_of is s))))
    (free_outside r is (made (id_at s (pick_of is s))) day n (ready r there) out ∙ taken))))
