-- Ranges are numbered in order.
use Rattle.std.proofs.Common.{Ok, Result, ◌≡◌, ℕ, suc, ◌+◌, ◌<◌, ◌≤◌, Bool, true, false, ◌&&◌, cond}
use Rattle.std.proofs.Common.{ltb, List, [], ◌∷◌, Option, Some, None, refl, sym, ap, ◌∙◌, ◌⊎◌}
use Rattle.std.proofs.Common.{arith, subst, inl, inr, length, zero}
use Rattle.std.specs.Prelude.{find, filter, slice_get, Contains, IfSome}
use Rattle.std.proofs.lemmas.Bool.{lt-ltb, le-ltb, ltb-true, and_parts, and_left}
use Rattle.std.proofs.lemmas.Option.{none-some, same_Some}
use Rattle.s10_wire.specs.declared.body.Body.{Body}
use Rattle.s10_wire.specs.declared.body.Body.TheVariants.{Grant}
use Rattle.s10_wire.specs.declared.outcome.Outcome.{Outcome}
use Rattle.s10_wire.specs.declared.outcome.Outcome.TheVariants.{Granted}
use Rattle.s10_history.specs.declared.entry.Entry.{Entry}
use Rattle.s10_history.specs.declared.range.Range.{Range}
use Rattle.s10_history.specs.History.{ranges_from, range_of_grant, then_ranges}

-- Whether the range passes the test, and its number is above `after`.
abbrev pub above : (Range → Bool) → ℕ → Range → Bool
above p after r = ltb after r.num && p r

-- The numbers grow by one.
abbrev pub Numbered : ℕ → List Range → Type 0
Numbered n [] = Unit {0}
Numbered n (r ∷ rs) = (r.num ≡ n) × Numbered (n + 1) rs

-- The range of a Grant has the given number.
num_of_grant : (num : ℕ) (b : Body) (o : Outcome) (r : Range) → range_of_grant num b o ≡ Some r
    → r.num ≡ num
num_of_grant num (Grant holder service country first last) (Granted n) r h =
    sym (ap (λ (x : Range). x.num) (same_Some _ _ h))
num_of_grant num b o r h = absurd (none-some r h)

numbered_then : (num : ℕ) (es : List Entry) (o : Option Range)
    → ((r : Range) → o ≡ Some r → r.num ≡ num) → Numbered num (ranges_from num es)
    → Numbered (num + 1) (ranges_from (num + 1) es)
    → Numbered num (then_ranges o (ranges_from num es) (ranges_from (num + 1) es))
numbered_then num es None f here next = here
numbered_then num es (Some r) f here next = (f r refl, next)

pub numbered : (num : ℕ) (es : List Entry) → Numbered num (ranges_from num es)
numbered num [] = tt
numbered num (e ∷ es) = numbered_then num es (range_of_grant num e.request.body e.outcome)
    (num_of_grant num e.request.body e.outcome) (numbered num es) (numbered (num + 1) es)

-- All ranges from a number on are above each lower number.
pub filter_above : (p : Range → Bool) (after n : ℕ) (rs : List Range) → after < n → Numbered n rs
    → filter (above p after) rs ≡ filter p rs
filter_above p after n [] lower h = refl
filter_above p after n (r ∷ rs) lower h =
    let rest : filter (above p after) rs ≡ filter p rs =
    filter_above p after (n + 1) rs (omega arith) h.1 in
    let test : ltb after r.num ≡ true = lt-ltb after r.num (omega arith) in
    rw (test, rest) refl

pub chosen : {A : Type 0} (b : Bool) (x r : A) (o : Option A) → cond b (Some x) o ≡ Some r
    → ((b ≡ true) × (x ≡ r)) ⊎ ((b ≡ false) × (o ≡ Some r))
chosen true x r o h = inl (refl, same_Some x r h)
chosen false x r o h = inr (refl, h)

-- What is found is the first element, or is found among the later ones.
pub find_cases : {A : Type 0} (p : A → Bool) (x r : A) (xs : List A) → find p (x ∷ xs) ≡ Some r
    → ((p x ≡ true) × (x ≡ r)) ⊎ ((p x ≡ false) × (find p xs ≡ Some r))
find_cases p x r xs h = chosen (p x) x r (find p xs) h

found_since : (p : Range → Bool) (n : ℕ) (rs : List Range) (r : Range) → Numbered n rs
    → find p rs ≡ Some r → n ≤ r.num
found_since p n [] r h found = absurd (none-some r found)
found_since p n (x ∷ rs) r h found =
    elim (find_cases p x r rs found) [
      | inl w ↦ omega (arith, h.0, ap (λ (y : Range). y.num) w.1)
      | inr w ↦ omega (arith, found_since p (n + 1) rs r h.1 w.1)
    ]

-- The ranges above a number are the first of them, followed by those above that one.
pub next_above : (p : Range → Bool) (after n : ℕ) (rs : List Range) (r : Range) → Numbered n rs
    → find (above p after) rs ≡ Some r → filter (above p after) rs ≡ r ∷ filter (above p r.num) rs
next_above p after n [] r h found = absurd (none-some r found)
next_above p after n (x ∷ rs) r h found =
    elim (find_cases (above p after) x r rs found) [
      | inl w ↦
          let same : x.num ≡ r.num = ap (λ (y : Range). y.num) w.1 in
          let lower : after < x.num = ltb-true after x.num (and_parts _ _ w.0).0 in
          let left : filter (above p after) rs ≡ filter p rs =
          filter_above p after (n + 1) rs (omega arith) h.1 in
          let right : filter (above p r.num) rs ≡ filter p rs =
          filter_above p r.num (n + 1) rs (omega arith) h.1 in
          let test : above p r.num x ≡ false =
          and_left (ltb r.num x.num) (p x) (le-ltb r.num x.num (omega arith)) in
          rw (w.0, test, left, right, w.1) refl
      | inr w ↦
          let up : n + 1 ≤ r.num = found_since (above p after) (n + 1) rs r h.1 w.1 in
          let test : above p r.num x ≡ false =
          and_left (ltb r.num x.num) (p x) (le-ltb r.num x.num (omega (arith, h.0))) in
          rw (w.0, test) (next_above p after (n + 1) rs r h.1 w.1)
    ]

-- What is found is in the list.
pub Contains-find : {A : Type 0} (p : A → Bool) (xs : List A) (x : A) → find p xs ≡ Some x
    → Contains xs x
Contains-find p [] x found = absurd (none-some x found)
Contains-find p (y ∷ ys) x found =
    elim (find_cases p y x ys found) [
      | inl w ↦ (0, omega arith, w.1)
      | inr w ↦ let there : Contains ys x = Contains-find p ys x w.1 in
          (suc there.0, omega (arith, there.1), there.2)
    ]

-- If nothing is found, nothing passes the filter.
pub filter_none : {A : Type 0} (p : A → Bool) (xs : List A) → find p xs ≡ None → filter p xs ≡ []
filter_none p [] h = refl
filter_none p (x ∷ xs) h = none_at (p x) x (find p xs) (filter p xs) h (filter_none p xs)
  where
    none_at : {A : Type 0} (b : Bool) (x : A) (o : Option A) (find_entry : List A)
        → cond b (Some x) o ≡ None → (o ≡ None → find_entry ≡ [])
        → cond b (x ∷ find_entry) find_entry ≡ []
    none_at true x o find_entry same rest = absurd (none-some x (sym same))
    none_at false x o find_entry same rest = rest same

-- What is found passes the test.
pub found_passes : {A : Type 0} (p : A → Bool) (xs : List A) (x : A) → find p xs ≡ Some x
    → p x ≡ true
found_passes p [] x found = absurd (none-some x found)
found_passes {A} p (y ∷ ys) x found =
    elim (find_cases p y x ys found) [
      | inl w ↦ let P : A → Type 0 = λ z. p z ≡ true in subst P w.1 w.0
      | inr w ↦ found_passes p ys x w.1
    ]

pub found_above : (q : Range → Bool) (after : ℕ) (rs : List Range) (o : Option Range)
    → o ≡ find (above q after) rs → IfSome o (λ r. after < r.num)
found_above q after rs None e = tt
found_above q after rs (Some r) e =
    ltb-true after r.num (and_parts _ _ (found_passes (above q after) rs r (sym e))).0

-- What a look-up returns is in the list.
pub Contains-answered : {A E : Type 0} (p : A → Bool) (xs : List A) (result : Result (Option A) E)
    (found : Option A) (x : A) → result ≡ Ok (find p xs) → result ≡ Ok found → found ≡ Some x
    → Contains xs x
Contains-answered p xs result found x answer is some =
    Contains-find p xs x (let same : find p xs ≡ found = cc in same ∙ some)

-- An index without an element is past the end.
pub past_end : {A : Type 0} (xs : List A) (k : ℕ) → slice_get xs k ≡ None → length xs ≤ k
past_end [] k none = omega arith
past_end (x ∷ xs) zero none = absurd (none-some x (sym none))
past_end (x ∷ xs) (suc k) none = let le = past_end xs k none in omega (arith, le)
