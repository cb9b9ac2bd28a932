-- In a legal history no identifier lies in two ranges.
use Rattle.std.proofs.Common.{◌≡◌, ℕ, ◌<◌, ◌≤◌, Bool, true, false, cond, eqb, List, [], ◌∷◌, ◌++◌}
use Rattle.std.proofs.Common.{Option, Some, None, refl, sym, ap, ◌∙◌, arith, subst, length, get_or}
use Rattle.std.proofs.Common.{append-nil}
use Rattle.std.specs.Prelude.{All, AllPairs, IsTrue, option_to_list}
use Rattle.std.specs.List.{list_any}
use Rattle.std.proofs.lemmas.Bool.{both_ways, eqb-true, eq-eqb, leb-true, le-leb, and_parts}
use Rattle.std.proofs.lemmas.Bool.{and_from, or_parts}
use Rattle.std.proofs.lemmas.Option.{none-some, same_Some}
use Rattle.std.proofs.lemmas.List.Quantifiers.{all_pairs_push}
use Rattle.std.proofs.lemmas.List.Elements.{All-nil, All-cons}
use Rattle.s10_core.specs.declared.id.Id.{Id}
use Rattle.s10_core.specs.Letters.{same_letters}
use Rattle.s10_wire.specs.declared.body.Body.{Body}
use Rattle.s10_wire.specs.declared.body.Body.TheVariants.{Grant}
use Rattle.s10_wire.specs.declared.outcome.Outcome.{Outcome}
use Rattle.s10_wire.specs.declared.outcome.Outcome.TheVariants.{Granted, NotThePost, BadGrant}
use Rattle.s10_wire.specs.declared.outcome.Outcome.TheVariants.{Overlap}
use Rattle.s10_history.specs.declared.entry.Entry.{Entry}
use Rattle.s10_history.specs.declared.range.Range.{Range}
use Rattle.s10_history.specs.Settings.{Terms}
use Rattle.s10_history.specs.History.{ranges_of, range_of_grant, lies_in, overlaps}
use Rattle.s10_book.specs.Rules.{IsLegal, body_answer}
use Rattle.s10_book.specs.Promises.{IsApart}
use Rattle.s10_history.proofs.Push.{ranges_from-push}
use Rattle.s10_book.proofs.Legal.{legal_induction}

-- What a range and an identifier in it have in common.
pub record Within (r : Range) (x : Id) : Type 0 where
  pub service : x.service ≡ r.service
  pub country : x.country ≡ r.country
  pub low : r.first ≤ x.serial
  pub high : x.serial ≤ r.last

pub letters_equal : (a b : ℕ × ℕ) → same_letters a b ≡ true → a ≡ b
letters_equal a b h =
    let both = and_parts (eqb a.0 b.0) (eqb a.1 b.1) h in
    let e0 : a.0 ≡ b.0 = eqb-true a.0 b.0 both.0 in
    let e1 : a.1 ≡ b.1 = eqb-true a.1 b.1 both.1 in
    let f : ℕ → ℕ × ℕ = λ u. (u, a.1) in
    let g : ℕ → ℕ × ℕ = λ v. (b.0, v) in
    ap f e0 ∙ ap g e1

pub letters_same : (a b : ℕ × ℕ) → a ≡ b → same_letters a b ≡ true
letters_same a b e = and_from (eqb a.0 b.0) (eqb a.1 b.1)
    (eq-eqb a.0 b.0 (ap (λ (p : ℕ × ℕ). p.0) e)) (eq-eqb a.1 b.1 (ap (λ (p : ℕ × ℕ). p.1) e))

pub within : (r : Range) (x : Id) → lies_in r x ≡ true → Within r x
within r x h =
    let a = and_parts _ _ h in
    let b = and_parts _ _ a.0 in
    let d = and_parts _ _ b.0 in
    record {
      service = sym (letters_equal r.service x.service d.0);
      country = sym (letters_equal r.country x.country d.1);
      low = leb-true r.first x.serial b.1;
      high = leb-true x.serial r.last a.1;
    }

pub overlapping : (s c : ℕ × ℕ) (first last : ℕ) (r : Range) → r.service ≡ s → r.country ≡ c
    → r.first ≤ last → first ≤ r.last → first ≤ last → overlaps s c first last r ≡ true
overlapping s c first last r es ec low high order =
    and_from _ _
    (and_from _ _
    (and_from _ _ (and_from _ _ (letters_same r.service s es) (letters_same r.country c ec))
    (le-leb r.first last low)) (le-leb first r.last high)) (le-leb first last order)

-- A Grant is done only if no range overlaps.
pub granted_when : (b1 b2 b3 : Bool) (n m : ℕ)
    → cond b1 NotThePost (cond b2 BadGrant (cond b3 Overlap (Granted n))) ≡ Granted m → b3 ≡ false
granted_when true b2 b3 n m h = cc
granted_when false true b3 n m h = cc
granted_when false false true n m h = cc
granted_when false false false n m h = refl

-- The number of a Done Grant is that of the next range.
pub granted_parts : (b1 b2 b3 : Bool) (n m : ℕ)
    → cond b1 NotThePost (cond b2 BadGrant (cond b3 Overlap (Granted n))) ≡ Granted m → n ≡ m
granted_parts true b2 b3 n m e = cc
granted_parts false true b3 n m e = cc
granted_parts false false true n m e = cc
granted_parts false false false n m e = cc

pub none_pass : {A : Type 0} (p : A → Bool) (xs : List A) → list_any p xs ≡ false
    → All (λ x. p x ≡ false) xs
none_pass p [] h = All-nil (λ x. p x ≡ false)
none_pass p (x ∷ xs) h = let both = or_parts (p x) (list_any p xs) h in
    All-cons (λ y. p y ≡ false) x xs both.0 (none_pass p xs both.1)

abbrev pub Apart : Range → Range → Type 0
Apart r s = (x : Id) → IsTrue (lies_in r x) → ¬ (IsTrue (lies_in s x))

one_more : (rs : List Range) (made : Option Range) → AllPairs Apart rs
    → ((r : Range) → made ≡ Some r → (k : ℕ) (d : Range) → k < length rs → Apart (get_or rs k d) r)
    → AllPairs Apart (rs ++ option_to_list made)
one_more rs None pairs new = rw append-nil pairs
one_more rs (Some r) pairs new = all_pairs_push Apart rs r pairs (new r refl)

pub new_apart : (h : List Entry) (customer day interval num : ℕ) (b : Body) (o : Outcome)
    (r : Range) → o ≡ body_answer h customer b day interval → range_of_grant num b o ≡ Some r
    → (k : ℕ) (d : Range) → k < length (ranges_of h) → Apart (get_or (ranges_of h) k d) r
new_apart h customer day interval num (Grant holder s c first last) (Granted n) r is made =
    λ k d lt x in_old in_new.
    let e = same_Some _ _ made in
    let old = get_or (ranges_of h) k d in
    let a = within old x in_old in
    let b = within r x in_new in
    let low : old.first ≤ last = omega (arith, a.low, b.high, ap (λ (y : Range). y.last) e) in
    let high : first ≤ old.last = omega (arith, a.high, b.low, ap (λ (y : Range). y.first) e) in
    let order : first ≤ last = omega (
      arith,
      b.low,
      b.high,
      ap (λ (y : Range). y.first) e,
      ap (λ (y : Range). y.last) e,
    ) in
    let same_s : old.service ≡ s = sym a.service ∙ b.service
    ∙ sym (ap (λ (y : Range). y.service) e) in
    let same_c : old.country ≡ c = sym a.country ∙ b.country
    ∙ sym (ap (λ (y : Range). y.country) e) in
    both_ways (overlaps s c first last old)
    (none_pass (overlaps s c first last) (ranges_of h) (granted_when _ _ _ _ _ (sym is)) k d lt)
    (overlapping s c first last old same_s same_c low high order)
new_apart h customer day interval num b o r is made = absurd (none-some r made)

pub apart : (h : List Entry) (t : Terms) → IsLegal h t → IsApart h
apart h t legal = legal_induction IsApart h t legal (λ i j d lt lt'. absurd (omega arith))
    (λ g e legal_g before may.
    let P : List Range → Type 0 = AllPairs Apart in
    subst P (sym (ranges_from-push 1 g e))
    (one_more (ranges_of g) _ before (λ r made. new_apart g e.request.customer e.day t.interval _
    e.request.body e.outcome r may.right made)))
