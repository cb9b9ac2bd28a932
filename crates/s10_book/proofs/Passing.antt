-- A walk over ranges in order of their numbers, until one passes a test.
use Rattle.std.proofs.Common.{◌≡◌, ℕ, Bool, true, false, cond, ltb, ◌&&◌, List, [], ◌∷◌, Some, None}
use Rattle.std.proofs.Common.{refl, sym, ap, ◌∙◌, arith}
use Rattle.std.specs.Prelude.{find, filter, All}
use Rattle.std.proofs.lemmas.List.Elements.{All-head, All-tail}
use Rattle.s10_history.specs.declared.range.Range.{Range}
use Rattle.s10_history.proofs.Numbering.{above, Numbered, filter_above, next_above, filter_none}
use Rattle.s10_book.proofs.Alike.{find_same}

-- A range that fails the first test fails the second.
abbrev pub Narrows : (Range → Bool) → (Range → Bool) → List Range → Type 0
Narrows wide narrow rs = All (λ r. wide r ≡ false → narrow r ≡ false) rs

find_among : (wide narrow : Range → Bool) (after : ℕ) (rs : List Range) → Narrows wide narrow rs
    → find (above narrow after) rs ≡ find narrow (filter (above wide after) rs)
find_among wide narrow after [] all = refl
find_among wide narrow after (r ∷ rs) all =
    at (ltb after r.num) (wide r) (All-head (λ x. wide x ≡ false → narrow x ≡ false) r rs all)
    (find_among wide narrow after rs
    (All-tail (λ x. wide x ≡ false → narrow x ≡ false) r rs all))
  where
    at : (a b : Bool) → (b ≡ false → narrow r ≡ false) → find (above narrow after) rs
        ≡ find narrow (filter (above wide after) rs)
        → cond (a && narrow r) (Some r) (find (above narrow after) rs)
        ≡ find narrow (cond (a && b) (r ∷ filter (above wide after) rs)
        (filter (above wide after) rs))
    at true true none rest = ap (cond (narrow r) (Some r)) rest
    at true false none rest =
        ap (λ c. cond c (Some r) (find (above narrow after) rs)) (none refl) ∙ rest
    at false b none rest = rest

walk_at : (wide narrow : Range → Bool) (after : ℕ) (rs : List Range) (r : Range) → Numbered 1 rs
    → Narrows wide narrow rs → find (above wide after) rs ≡ Some r
    → find (above narrow after) rs ≡ cond (narrow r) (Some r) (find (above narrow r.num) rs)
walk_at wide narrow after rs r numbers all found =
    find_among wide narrow after rs all ∙ ap (find narrow) (next_above wide after 1 rs r numbers found)
    ∙ ap (cond (narrow r) (Some r)) (sym (find_among wide narrow r.num rs all))

-- If the range found fails the narrow test, the search continues after it.
pub walk_on : (wide narrow : Range → Bool) (after : ℕ) (rs : List Range) (r : Range)
    → Numbered 1 rs → Narrows wide narrow rs → find (above wide after) rs ≡ Some r
    → narrow r ≡ false → find (above narrow after) rs ≡ find (above narrow r.num) rs
walk_on wide narrow after rs r numbers all found fails =
    walk_at wide narrow after rs r numbers all found
    ∙ ap (λ b. cond b (Some r) (find (above narrow r.num) rs)) fails

-- If it passes, it is the one.
pub walk_found : (wide narrow : Range → Bool) (after : ℕ) (rs : List Range) (r : Range)
    → Numbered 1 rs → Narrows wide narrow rs → find (above wide after) rs ≡ Some r
    → narrow r ≡ true → find (above narrow after) rs ≡ Some r
walk_found wide narrow after rs r numbers all found passes =
    walk_at wide narrow after rs r numbers all found
    ∙ ap (λ b. cond b (Some r) (find (above narrow r.num) rs)) passes

-- If no range is found, none passes.
pub walk_out : (wide narrow : Range → Bool) (after : ℕ) (rs : List Range)
    → Narrows wide narrow rs → find (above wide after) rs ≡ None
    → find (above narrow after) rs ≡ None
walk_out wide narrow after rs all none =
    find_among wide narrow after rs all ∙ ap (find narrow) (filter_none (above wide after) rs none)

-- What passes both tests is found by the second among what passes the first.
both_among : (wide narrow : Range → Bool) (rs : List Range)
    → find (λ r. wide r && narrow r) rs ≡ find narrow (filter wide rs)
both_among wide narrow [] = refl
both_among wide narrow (r ∷ rs) = at (wide r) (both_among wide narrow rs)
  where
    at : (b : Bool) → find (λ x. wide x && narrow x) rs ≡ find narrow (filter wide rs)
        → cond (b && narrow r) (Some r) (find (λ x. wide x && narrow x) rs)
        ≡ find narrow (cond b (r ∷ filter wide rs) (filter wide rs))
    at true rest = ap (cond (narrow r) (Some r)) rest
    at false rest = rest

and_again : (a b c : Bool) → (a && (b && c)) ≡ ((a && b) && c)
and_again true b c = refl
and_again false b c = refl

-- The first range of all that passes both tests.
pub first_of_both : (wide narrow : Range → Bool) (rs : List Range) → Numbered 1 rs
    → find (above (λ r. wide r && narrow r) 0) rs ≡ find narrow (filter wide rs)
first_of_both wide narrow rs numbers =
    find_same (above (λ r. wide r && narrow r) 0) (λ r. above wide 0 r && narrow r) rs
    (λ r. and_again (ltb 0 r.num) (wide r) (narrow r))
    ∙ both_among (above wide 0) narrow rs
    ∙ ap (find narrow) (filter_above wide 0 1 rs (omega arith) numbers)
