-- In a legal history each issuance lies in a range that its customer holds by an earlier call.
use Rattle.std.proofs.Common.{◌≡◌, ℕ, zero, suc, ◌+◌, ◌-◌, ◌<◌, ◌≤◌, Bool, true, false, cond, not}
use Rattle.std.proofs.Common.{eqb, ltb, ◌&&◌, List, [], ◌∷◌, ◌++◌, Option, Some, None, refl, sym}
use Rattle.std.proofs.Common.{ap, ◌∙◌, inl, inr, arith, subst, length, take, append-nil}
use Rattle.std.proofs.Common.{length-append, take_all}
use Rattle.std.specs.Prelude.{find, All, IsTrue, option_to_list}
use Rattle.std.specs.List.{list_any, range_with_len}
use Rattle.std.proofs.lemmas.Bool.{eq-eqb, le-leb, ltb-false, and_parts, and_from, or_parts}
use Rattle.std.proofs.lemmas.Option.{none-some, same_Some}
use Rattle.std.proofs.lemmas.List.{take-append-le}
use Rattle.std.proofs.lemmas.List.Folds.{list_any_at}
use Rattle.std.proofs.lemmas.List.Elements.{All-nil, All-push, All-weaker, All-contains}
use Rattle.s10_core.specs.declared.id.Id.{Id}
use Rattle.s10_wire.specs.declared.body.Body.{Body}
use Rattle.s10_wire.specs.declared.body.Body.TheVariants.{Grant}
use Rattle.s10_wire.specs.declared.outcome.Outcome.{Outcome}
use Rattle.s10_wire.specs.declared.outcome.Outcome.TheVariants.{Granted, NotThePost, BadGrant}
use Rattle.s10_wire.specs.declared.outcome.Outcome.TheVariants.{Overlap}
use Rattle.s10_history.specs.declared.entry.Entry.{Entry}
use Rattle.s10_history.specs.declared.range.Range.{Range}
use Rattle.s10_history.specs.declared.issuance.Issuance.{Issuance}
use Rattle.s10_history.specs.Settings.{Terms}
use Rattle.s10_history.specs.History.{ranges_of, range_of_grant, lies_in, is_own}
use Rattle.s10_history.specs.Issues.{issues_of, is_issued, serial_issued_earliest, pick_of, id_at}
use Rattle.s10_book.specs.Rules.{IsLegal, body_answer}
use Rattle.s10_book.specs.Promises.{IsOwn}
use Rattle.s10_history.proofs.Numbering.{chosen, find_cases}
use Rattle.s10_history.proofs.Push.{ranges_from-push}
use Rattle.std.specs.Option.{option_or, unwrap_or}
use Rattle.s10_history.proofs.Earliest.{earliest_cons}
use Rattle.s10_book.proofs.Legal.{legal_induction}
use Rattle.s10_book.proofs.Apart.{within}
use Rattle.s10_book.proofs.Spaced.{letters_itself}
use Rattle.s10_book.proofs.Carried.{made_by, IsPicked, after_call}

-- A number is a serial of a range if it is from its first to its last.
pub record IsSerialOf (r : Range) (s : ℕ) : Type 0 where
  pub low : r.first ≤ s
  pub high : s ≤ r.last

found_low : (p : ℕ → Bool) (low n s : ℕ) → find p (range_with_len low n) ≡ Some s → (low ≤ s)
    × (s < low + n)
found_low p low zero s found = absurd (none-some s found)
found_low p low (suc n) s found =
    elim (find_cases p low s (range_with_len (low + 1) n) found) [
      | inl w ↦ (omega (arith, w.1), omega (arith, w.1))
      | inr w ↦ let rest = found_low p (low + 1) n s w.1 in
          (omega (arith, rest.0), omega (arith, rest.1))
    ]

oldest_within : (r : Range) (is : List Issuance) (s : ℕ) → serial_issued_earliest r is ≡ Some s
    → IsSerialOf r s
oldest_within r [] s e = absurd (none-some s e)
oldest_within r (i ∷ is) s e =
    elim (chosen (lies_in r i.id && not (is_issued is i.id)) i.id.serial s
    (serial_issued_earliest r is) (sym (earliest_cons r i is) ∙ e)) [
      | inl w ↦ let in' = within r i.id (and_parts _ _ w.0).0 in
          record { low = omega (arith, in'.low, w.1); high = omega (arith, in'.high, w.1) }
      | inr w ↦ oldest_within r is s w.1
    ]

choice_within : (r : Range) (f o : Option ℕ) → r.first ≤ r.last
    → ((s : ℕ) → f ≡ Some s → IsSerialOf r s) → ((s : ℕ) → o ≡ Some s → IsSerialOf r s)
    → IsSerialOf r (unwrap_or (option_or f o) r.first)
choice_within r (Some s) o order fs os = fs s refl
choice_within r None (Some s) order fs os = os s refl
choice_within r None None order fs os = record { low = omega arith; high = order }

-- A range gives one of its serials.
pub pick_within : (is : List Issuance) (r : Range) → r.first ≤ r.last → IsSerialOf r (pick_of is r)
pick_within is r order =
    choice_within r _ _ order
    (λ s found. let w = found_low (λ serial. not (is_issued is (id_at r serial))) r.first
    (r.last + 1 - r.first) s found in record { low = w.0; high = omega (arith, w.1) })
    (oldest_within r is)

pub lies_at : (r : Range) (s : ℕ) → IsSerialOf r s → lies_in r (id_at r s) ≡ true
lies_at r s in' =
    and_from _ _ (and_from _ _ (and_from _ _ (letters_itself r.service) (letters_itself r.country))
    (le-leb r.first s in'.low)) (le-leb s r.last in'.high)

-- A Grant is done only if its first serial is not above its last.
granted_order : (b1 b2 b3 : Bool) (n m : ℕ)
    → cond b1 NotThePost (cond b2 BadGrant (cond b3 Overlap (Granted n))) ≡ Granted m → b2 ≡ false
granted_order true b2 b3 n m h = cc
granted_order false true b3 n m h = cc
granted_order false false b3 n m h = refl

pub new_ordered : (h : List Entry) (customer day interval num : ℕ) (b : Body) (o : Outcome)
    (r : Range) → o ≡ body_answer h customer b day interval → range_of_grant num b o ≡ Some r
    → r.first ≤ r.last
new_ordered h customer day interval num (Grant holder s c first last) (Granted n) r is made =
    let e = same_Some _ _ made in
    let order : first ≤ last =
    ltb-false last first (or_parts (eqb holder 0) (ltb last first)
    (granted_order _ _ _ _ _ (sym is))).1 in
    omega (arith, order, ap (λ (y : Range). y.first) e, ap (λ (y : Range). y.last) e)
new_ordered h customer day interval num b o r is made = absurd (none-some r made)

all_more : {A : Type 0} (P : A → Type 0) (rs : List A) (made : Option A) → All P rs
    → ((r : A) → made ≡ Some r → P r) → All P (rs ++ option_to_list made)
all_more P rs None all new = rw append-nil all
all_more P rs (Some r) all new = All-push P rs r all (new r refl)

-- Each range has a serial.
pub ordered : (h : List Entry) (t : Terms) → IsLegal h t → All (λ r. r.first ≤ r.last) (ranges_of h)
ordered h t legal = legal_induction (λ g. All (λ r. r.first ≤ r.last) (ranges_of g)) h t legal
    (All-nil (λ r. r.first ≤ r.last))
    (λ g e legal_g before may.
    let P : List Range → Type 0 = All (λ r. r.first ≤ r.last) in
    subst P (sym (ranges_from-push 1 g e))
    (all_more (λ r. r.first ≤ r.last) (ranges_of g) _ before
    (λ r made. new_ordered g e.request.customer e.day t.interval _ e.request.body e.outcome r
    may.right made)))

-- The pick of a range lies in it.
pub lies_picked : (g : List Entry) (t : Terms) (customer day n : ℕ) (is : List Issuance)
    (c : ℕ × Id) → IsLegal g t → (from : IsPicked (ranges_of g) customer day n is c)
    → lies_in from.range c.1 ≡ true
lies_picked g t customer day n is c legal from =
    let order : from.range.first ≤ from.range.last = All-contains (λ r. r.first ≤ r.last)
    (ranges_of g) from.range (ordered g t legal) from.there in
    let P : Id → Type 0 = λ y. lies_in from.range y ≡ true in
    subst P from.picked (lies_at from.range (pick_of is from.range)
    (pick_within is from.range order))

pub own_picked : (g : List Entry) (t : Terms) (customer day n : ℕ) (is : List Issuance) (c : ℕ × Id)
    → IsLegal g t → IsPicked (ranges_of g) customer day n is c
    → list_any (is_own customer c.1) (ranges_of g) ≡ true
own_picked g t customer day n is c legal from =
    let P : Range → Type 0 = λ r. is_own customer c.1 r ≡ true in
    list_any_at (is_own customer c.1) (ranges_of g) from.there.0 from.range from.there.1
    (subst P (sym from.there.2) (and_from (eqb from.range.holder customer) (lies_in from.range c.1)
    (eq-eqb _ _ from.holder) (lies_picked g t customer day n is c legal from)))

-- An issuance is owned if one of the calls made it, from a range of the calls before that one.
abbrev pub IsOwned : List Entry → Issuance → Type 0
IsOwned h i = (1 ≤ i.arrival) × (i.arrival ≤ length h)
    × (list_any (is_own i.customer i.id) (ranges_of (take (i.arrival - 1) h)) ≡ true)

owned_more : (g : List Entry) (e : Entry) (i : Issuance) → IsOwned g i → IsOwned (g ++ e ∷ []) i
owned_more g e i h =
    let le : i.arrival - 1 ≤ length g = omega (arith, h.1) in (
      h.0,
      omega (arith, h.1, length-append g (e ∷ [])),
      rw (take-append-le (i.arrival - 1) g (e ∷ []) le) h.2,
    )

take_front : (g ys : List Entry) (n : ℕ) → n ≡ length g → take n (g ++ ys) ≡ g
take_front g ys n e = take-append-le n g ys (omega arith) ∙ take_all n g (omega arith)

pub owned : (h : List Entry) (t : Terms) → IsLegal h t → All (IsOwned h) (issues_of h)
owned h t legal = legal_induction (λ g. All (IsOwned g) (issues_of g)) h t legal
    (All-nil (IsOwned []))
    (λ g e legal_g before may.
    let P : Issuance → Type 0 = IsOwned (g ++ e ∷ []) in
    after_call (All P) g t e may (All-weaker (IsOwned g) P (owned_more g e) (issues_of g) before)
    (λ is c picked all. All-push P is (made_by e (1 + length g) c) all (
      omega arith,
      omega (arith, length-append g (e ∷ [])),
      rw (take_front g (e ∷ []) (1 + length g - 1) (omega arith))
          (own_picked g t e.request.customer e.day t.interval is c legal_g picked),
    )))

pub own : (h : List Entry) (t : Terms) → IsLegal h t → IsOwn h
own h t legal =
    All-weaker (IsOwned h)
    (λ i. IsTrue (list_any (is_own i.customer i.id) (ranges_of (take (i.arrival - 1) h))))
    (λ i o. o.2) (issues_of h) (owned h t legal)
