-- Ranges whose pick is not free give none to successive Draws.
use Rattle.std.proofs.Common.{◌≡◌, ℕ, zero, suc, Bool, true, false, cond, ◌&&◌, List, [], ◌∷◌, ◌++◌}
use Rattle.std.proofs.Common.{Some, get_or, refl, sym, ap, ◌∙◌}
use Rattle.std.specs.Prelude.{find, filter, AllPairs, Contains}
use Rattle.std.specs.Option.{option_map}
use Rattle.std.proofs.lemmas.Bool.{both_ways}
use Rattle.std.proofs.lemmas.List.Elements.{All-head, All-tail, Contains-get_or}
use Rattle.s10_core.specs.declared.id.Id.{Id}
use Rattle.s10_history.specs.declared.range.Range.{Range}
use Rattle.s10_history.specs.declared.issuance.Issuance.{Issuance}
use Rattle.s10_history.specs.Issues.{pick_of, id_at}
use Rattle.s10_history.proofs.Numbering.{Contains-find, found_passes}
use Rattle.s10_book.specs.Rules.{has_free_pick}
use Rattle.s10_book.proofs.Apart.{Apart}
use Rattle.s10_book.proofs.Carried.{Contains-filter}
use Rattle.s10_book.proofs.Passing.{Narrows}
use Rattle.s10_book.proofs.Picking.{then_found, then_same, picks}
use Rattle.s10_book.proofs.Rows.{Ready, ready_next, outside_other, free_outside}

-- What is found by the narrow test is found among the ranges that pass the wide one.
find_narrowed : (p wide narrow : Range → Bool) (rs : List Range) → Narrows wide narrow rs
    → find narrow (filter p rs) ≡ find narrow (filter (λ r. p r && wide r) rs)
find_narrowed p wide narrow [] all = refl
find_narrowed p wide narrow (r ∷ rs) all =
    at (p r) (wide r) (All-head (λ x. wide x ≡ false → narrow x ≡ false) r rs all)
    (find_narrowed p wide narrow rs (All-tail (λ x. wide x ≡ false → narrow x ≡ false) r rs all))
  where
    at : (a b : Bool) → (b ≡ false → narrow r ≡ false)
        → find narrow (filter p rs) ≡ find narrow (filter (λ x. p x && wide x) rs)
        → find narrow (cond a (r ∷ filter p rs) (filter p rs))
        ≡ find narrow (cond (a && b) (r ∷ filter (λ x. p x && wide x) rs)
        (filter (λ x. p x && wide x) rs))
    at true true none rest = ap (cond (narrow r) (Some r)) rest
    at true false none rest = ap (λ c. cond c (Some r) (find narrow (filter p rs))) (none refl) ∙ rest
    at false b none rest = rest

-- A pick leaves the ranges that were not free as they were.
still_narrow : (made : Id → Issuance) (day n : ℕ) (rs : List Range) (old is : List Issuance)
    (s : Range) → ((x : Id) → (made x).id ≡ x) → AllPairs Apart rs → Ready rs is → Contains rs s
    → has_free_pick is day n s ≡ true
    → Narrows (has_free_pick old day n) (has_free_pick is day n) rs
    → Narrows (has_free_pick old day n)
    (has_free_pick (is ++ made (id_at s (pick_of is s)) ∷ []) day n) rs
still_narrow made day n rs old is s same pairs ready in_s free all k d lt used =
    let r = get_or rs k d in
    let in_r = Contains-get_or rs k d lt in
    let now : has_free_pick is day n (get_or rs k d) ≡ false = all k d lt used in
    let out = outside_other rs is (get_or rs k d) s (made (id_at s (pick_of is s))).id pairs ready
    in_r in_s (λ e. both_ways (has_free_pick is day n (get_or rs k d)) now
    (ap (has_free_pick is day n) (sym e) ∙ free)) (same (id_at s (pick_of is s))) in
    free_outside (get_or rs k d) is (made (id_at s (pick_of is s))) day n (ready (get_or rs k d) in_r)
    out ∙ now

-- The picks are those of the ranges whose pick was free before.
pub picks_narrowed : (made : Id → Issuance) (day n : ℕ) (rs : List Range) (p : Range → Bool)
    (old is : List Issuance) (count : ℕ) → ((x : Id) → (made x).id ≡ x) → AllPairs Apart rs
    → Ready rs is → Narrows (has_free_pick old day n) (has_free_pick is day n) rs
    → picks made day n (filter p rs) is count
    ≡ picks made day n (filter (λ r. p r && has_free_pick old day n r) rs) is count
picks_narrowed made day n rs p old is zero same pairs ready all = refl
picks_narrowed made day n rs p old is (suc k) same pairs ready all =
    let free : List Range = filter (λ r. p r && has_free_pick old day n r) rs in
    ap (λ o. then_found o (λ r. option_map (λ xs. id_at r (pick_of is r) ∷ xs)
    (picks made day n (filter p rs) (is ++ made (id_at r (pick_of is r)) ∷ []) k)))
    (find_narrowed p (has_free_pick old day n) (has_free_pick is day n) rs all)
    ∙ then_same (find (has_free_pick is day n) free) _ _
    (λ s found.
    let in_s : Contains rs s = Contains-filter (λ r. p r && has_free_pick old day n r) rs s
    (Contains-find (has_free_pick is day n) free s found) in
    let passes : has_free_pick is day n s ≡ true = found_passes (has_free_pick is day n) free s
    found in
    ap (option_map (λ xs. id_at s (pick_of is s) ∷ xs))
    (picks_narrowed made day n rs p old (is ++ made (id_at s (pick_of is s)) ∷ []) k same pairs
    (ready_next rs is s (made (id_at s (pick_of is s))) pairs ready in_s
    (same (id_at s (pick_of is s))))
    (still_narrow made day n rs old is s same pairs ready in_s passes all)))
