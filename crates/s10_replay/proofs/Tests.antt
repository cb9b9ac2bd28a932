-- Tests of columns that hold natural numbers, and what a filter keeps.
use Rattle.std.proofs.Common.{◌≡◌, ℕ, ℤ, ◌^◌, to_z, of_z, w64, ◌<◌, Bool, true, false, cond, eqb}
use Rattle.std.proofs.Common.{leb, pos, List, ◌∷◌, refl, ap, ◌∙◌, arith}
use Rattle.std.specs.Prelude.{◌&&◌, int_le}
use Rattle.std.specs.Ordering.{int_eq}
use Rattle.std.proofs.lemmas.Int.{ints}
use Rattle.std.proofs.lemmas.Bool.{both_ways}
use Rattle.std.proofs.lemmas.Bool.Decides.{same_from_decides, Decides-like, Decides-eqb}
use Rattle.std.proofs.lemmas.Bool.Decides.{Decides-int_eq, nat_tests}

pub one_number : (a b : ℕ) → pos a ≡ pos b → a ≡ b
one_number a b e = cc

pub int_eq-pos : (a b : ℕ) → int_eq (pos a) (pos b) ≡ eqb a b
int_eq-pos a b = same_from_decides (int_eq (pos a) (pos b)) (eqb a b)
    (Decides-int_eq (pos a) (pos b)) (Decides-like (eqb a b) (λ (e : a ≡ b). ap pos e)
    (one_number a b) (Decides-eqb a b))

pub int_le-pos : (a b : ℕ) → int_le (pos a) (pos b) ≡ leb a b
int_le-pos a b = refl

pub between_itself : (at n : ℕ) → (int_le (pos at) (pos n) && int_le (pos n) (pos at)) ≡ eqb n at
between_itself at n = rw (int_le-pos at n, int_le-pos n at) (grind (arith, nat_tests))

pub passed_over : {A : Type 0} (b : Bool) (x : A) (xs : List A) → b ≡ false → cond b (x ∷ xs) xs
    ≡ xs
passed_over true x xs e = absurd (both_ways true e refl)
passed_over false x xs e = refl

-- A number of 32 bits in a column.
pub column_back : (z : ℤ) (n : ℕ) → z ≡ pos n → n < 2 ^ 32 → to_z w64 (of_z w64 z) ≡ pos n
column_back z n is fit = ap (λ x. to_z w64 (of_z w64 x)) is ∙ omega (arith, ints)
