-- The open ranges among those that a customer holds.
use Rattle.std.proofs.Common.{◌≡◌, ℕ, Bool, true, false, cond, not, ◌&&◌, List, [], ◌∷◌, Some, None}
use Rattle.std.proofs.Common.{refl, sym, ap, ◌∙◌}
use Rattle.std.specs.Prelude.{find, filter, nat_lt}
use Rattle.s10_history.specs.declared.entry.Entry.{Entry}
use Rattle.s10_history.specs.declared.range.Range.{Range}
use Rattle.s10_history.specs.History.{ranges_of, is_held, is_closed, is_open_after}
use Rattle.s10_book.proofs.Alike.{find_same}
use Rattle.s10_history.proofs.Numbering.{above, numbered, next_above, filter_none}

-- An element found by two tests is found by the second among those that pass the first.
find_filter : {A : Type 0} (p q : A → Bool) (xs : List A) → find (λ x. p x && q x) xs
    ≡ find q (filter p xs)
find_filter p q [] = refl
find_filter p q (x ∷ xs) = at (p x) (find_filter p q xs)
  where
    at : (b : Bool) → find (λ y. p y && q y) xs ≡ find q (filter p xs)
        → cond (b && q x) (Some x) (find (λ y. p y && q y) xs)
        ≡ find q (cond b (x ∷ filter p xs) (filter p xs))
    at true rest = ap (cond (q x) (Some x)) rest
    at false rest = rest

abbrev is_left : List Entry → Range → Bool
is_left h r = not (is_closed h r.num)

and_again : (a b c : Bool) → (a && (b && c)) ≡ ((a && b) && c)
and_again true b c = refl
and_again false b c = refl

open_is : (h : List Entry) (after customer : ℕ) (s c : ℕ × ℕ)
    → find (is_open_after h after customer s c) (ranges_of h)
    ≡ find (is_left h) (filter (above (is_held customer s c) after) (ranges_of h))
open_is h after customer s c =
    find_same (is_open_after h after customer s c) (λ r. above (is_held customer s c) after r
    && is_left h r) (ranges_of h) (λ r. and_again (nat_lt after r.num) (is_held customer s c r)
    (is_left h r))
    ∙ find_filter (above (is_held customer s c) after) (is_left h) (ranges_of h)

front : (h : List Entry) (after customer : ℕ) (s c : ℕ × ℕ) (r : Range)
    → find (above (is_held customer s c) after) (ranges_of h) ≡ Some r
    → find (is_open_after h after customer s c) (ranges_of h)
    ≡ find (is_left h) (r ∷ filter (above (is_held customer s c) r.num) (ranges_of h))
front h after customer s c r found =
    open_is h after customer s c ∙ ap (find (is_left h)) (next_above (is_held customer s c) after 1
    (ranges_of h) r (numbered 1 h) found)

-- If the range found is closed, the search continues after it.
pub next_open : (h : List Entry) (after customer : ℕ) (s c : ℕ × ℕ) (r : Range)
    → find (above (is_held customer s c) after) (ranges_of h) ≡ Some r → is_closed h r.num ≡ true
    → find (is_open_after h after customer s c) (ranges_of h)
    ≡ find (is_open_after h r.num customer s c) (ranges_of h)
next_open h after customer s c r found closed =
    front h after customer s c r found
    ∙ ap (λ (b : Bool). cond (not b) (Some r)
    (find (is_left h) (filter (above (is_held customer s c) r.num) (ranges_of h)))) closed
    ∙ sym (open_is h r.num customer s c)

-- If the range found is open, it is the next open one.
pub this_open : (h : List Entry) (after customer : ℕ) (s c : ℕ × ℕ) (r : Range)
    → find (above (is_held customer s c) after) (ranges_of h) ≡ Some r → is_closed h r.num ≡ false
    → find (is_open_after h after customer s c) (ranges_of h) ≡ Some r
this_open h after customer s c r found left =
    front h after customer s c r found
    ∙ ap (λ (b : Bool). cond (not b) (Some r)
    (find (is_left h) (filter (above (is_held customer s c) r.num) (ranges_of h)))) left

-- If no range is found, none is open.
pub none_open : (h : List Entry) (after customer : ℕ) (s c : ℕ × ℕ)
    → find (above (is_held customer s c) after) (ranges_of h) ≡ None
    → find (is_open_after h after customer s c) (ranges_of h) ≡ None
none_open h after customer s c none =
    open_is h after customer s c
    ∙ ap (find (is_left h)) (filter_none (above (is_held customer s c) after) (ranges_of h)
    none)
