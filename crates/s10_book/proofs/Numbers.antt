-- The numbers of ranges have no gap.
use Rattle.std.proofs.Common.{◌≡◌, ℕ, ◌+◌, ◌<◌, ◌≤◌, Bool, true, false, cond, eqb, List, [], ◌∷◌}
use Rattle.std.proofs.Common.{Option, Some, refl, sym, ap, ◌∙◌, arith, length}
use Rattle.std.specs.Prelude.{find, is_some, ◌==◌}
use Rattle.std.proofs.lemmas.Bool.{eqb-true, eqb-false, true≢false}
use Rattle.s10_history.specs.declared.range.Range.{Range}
use Rattle.s10_history.proofs.Numbering.{Numbered}

-- A number that is found is one of the numbers of the ranges, and a number that is not found is
-- not.
record Counted (m n : ℕ) (rs : List Range) (found : Bool) : Type 0 where
  inside : found ≡ true → m < n + length rs
  outside : found ≡ false → n ≤ m → n + length rs ≤ m

counted_at : (b : Bool) (m n : ℕ) (r : Range) (rs : List Range) → r.num ≡ n → eqb r.num m ≡ b
    → Counted m (n + 1) rs (is_some (find (λ x. x.num == m) rs))
    → Counted m n (r ∷ rs) (is_some (cond b (Some r) (find (λ x. x.num == m) rs)))
counted_at true m n r rs num e rest =
    let same : r.num ≡ m = eqb-true r.num m e in
    record { inside = λ t. omega arith; outside = λ f. absurd (true≢false f) }
counted_at false m n r rs num e rest =
    let other = eqb-false r.num m e in
    record {
      inside = λ t. omega (arith, rest.inside t);
      outside = λ f le. omega (
        arith,
        num,
        rest.outside f,
        other,
      );
    }

counted : (m n : ℕ) (rs : List Range) → Numbered n rs
    → Counted m n rs (is_some (find (λ x. x.num == m) rs))
counted m n [] h = record {
  inside = λ t. absurd (true≢false (sym t));
  outside = λ f le. omega arith;
}
counted m n (r ∷ rs) h = counted_at (eqb r.num m) m n r rs h.0 refl (counted m (n + 1) rs h.1)

pub found_below : (m : ℕ) (rs : List Range) (o : Option Range) → Numbered 1 rs
    → o ≡ find (λ x. x.num == m) rs → is_some o ≡ true → m ≤ length rs
found_below m rs o h e t = let up = (counted m 1 rs h).inside (sym (ap is_some e) ∙ t) in
    omega arith

pub missing_above : (m : ℕ) (rs : List Range) (o : Option Range) → Numbered 1 rs
    → o ≡ find (λ x. x.num == m) rs → is_some o ≡ false → 1 ≤ m → length rs < m
missing_above m rs o h e f le = let up = (counted m 1 rs h).outside (sym (ap is_some e) ∙ f) le in
    omega arith
