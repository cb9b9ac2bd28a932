-- Texts that differ in one byte have different check values.
use Rattle.std.proofs.Common.{◌≡◌, ◌≢◌, ℕ, ◌-◌, ◌+◌, ◌/◌, ◌%◌, ◌^◌, ◌<◌, ◌==◌, List, [], ◌∷◌, ◌++◌}
use Rattle.std.proofs.Common.{Bool, true, false, arith, sym, ap, ◌∙◌, lit<, refl, eqb-true, false-eqb}
use Rattle.std.specs.Prelude.{bit_xor, fold, if◌then◌else◌}
use Rattle.std.specs.List.{AllByRecursion}
use Rattle.std.specs.Int.{bit_at}
use Rattle.std.proofs.lemmas.Nat.{xor_comm, xor_lt, xor_shr}
use Rattle.std.proofs.lemmas.Nat.Bits.{bit_at_xor, same_from_bits}
use Rattle.std.proofs.lemmas.Grind.{fold-append}
use Rattle.s10_notes.specs.CheckValue.{IsByte, generator, times_x, times_x4, after_byte, check_value}

-- A sum with the same bit has one other part.
same_bit : (a b g : ℕ) → a < 2 → b < 2 → (a + g) % 2 ≡ (b + g) % 2 → a ≡ b
same_bit a b g ha hb same = omega (arith, ha, hb, same)

bit_small : (n i : ℕ) → bit_at n i < 2
bit_small n i = omega arith

xor_same : (a b g : ℕ) → bit_xor a g ≡ bit_xor b g → a ≡ b
xor_same a b g same = same_from_bits a b (λ i. same_bit (bit_at a i) (bit_at b i) (bit_at g i)
    (bit_small a i) (bit_small b i)
    (sym (bit_at_xor a g i) ∙ ap (λ n. bit_at n i) same ∙ bit_at_xor b g i))

-- A remainder stays one.
times_x_small : (a : ℕ) → a < 2 ^ 32 → times_x a < 2 ^ 32
unfolding times_x
times_x_small a small = from (a % 2 == 1) where
  half : a / 2 < 2 ^ 32
  half = omega (arith, small)

  from : (b : Bool) → (if b then bit_xor (a / 2) generator else a / 2) < 2 ^ 32
  from true = xor_lt 32 (a / 2) generator half (lit< tt)
  from false = half

-- The half of a remainder has no highest bit, and its sum with the generator has one.
has_top : (a : ℕ) → a < 2 ^ 32 → bit_xor (a / 2) generator / 2 ^ 31 ≡ 1
has_top a small = let none : a / 2 / 2 ^ 31 ≡ 0 = omega (arith, small) in
    xor_shr (a / 2) generator 31 ∙ ap (λ n. bit_xor n (generator / 2 ^ 31)) none

-- So a product by x has one other part.
times_x_same : (a b : ℕ) → a < 2 ^ 32 → b < 2 ^ 32 → times_x a ≡ times_x b → a ≡ b
unfolding times_x
times_x_same a b ha hb same = from (a % 2 == 1) (b % 2 == 1) refl refl same where
  from : (p q : Bool) → (a % 2 == 1) ≡ p → (b % 2 == 1) ≡ q
      → (if p then bit_xor (a / 2) generator else a / 2) ≡ (if q then bit_xor (b / 2) generator else b / 2)
      → a ≡ b
  from true true odd odd' is =
      let half : a / 2 ≡ b / 2 = xor_same (a / 2) (b / 2) generator is in
      let one : a % 2 ≡ 1 = eqb-true (a % 2) 1 odd in
      let one' : b % 2 ≡ 1 = eqb-true (b % 2) 1 odd' in omega (arith, half, one, one')
  from false false even even' is =
      let half : a / 2 ≡ b / 2 = is in
      let one : a % 2 ≢ 1 = false-eqb (a % 2) 1 (sym even) in
      let one' : b % 2 ≢ 1 = false-eqb (b % 2) 1 (sym even') in omega (arith, half, one, one')
  from true false odd even is = let top = has_top a ha in
      let same_top : bit_xor (a / 2) generator ≡ b / 2 = is in absurd (omega (arith, hb, top, same_top))
  from false true even odd is = let top = has_top b hb in
      let same_top : a / 2 ≡ bit_xor (b / 2) generator = is in absurd (omega (arith, ha, top, same_top))

times_x4_small : (a : ℕ) → a < 2 ^ 32 → times_x4 a < 2 ^ 32
times_x4_small a small = times_x_small (times_x (times_x (times_x a)))
    (times_x_small (times_x (times_x a)) (times_x_small (times_x a) (times_x_small a small)))

times_x4_same : (a b : ℕ) → a < 2 ^ 32 → b < 2 ^ 32 → times_x4 a ≡ times_x4 b → a ≡ b
times_x4_same a b ha hb same =
    let a1 = times_x_small a ha in let b1 = times_x_small b hb in
    let a2 = times_x_small (times_x a) a1 in let b2 = times_x_small (times_x b) b1 in
    let a3 = times_x_small (times_x (times_x a)) a2 in
    let b3 = times_x_small (times_x (times_x b)) b2 in
    times_x_same a b ha hb (times_x_same (times_x a) (times_x b) a1 b1
    (times_x_same (times_x (times_x a)) (times_x (times_x b)) a2 b2
    (times_x_same (times_x (times_x (times_x a))) (times_x (times_x (times_x b))) a3 b3 same)))

sum_small : (a byte : ℕ) → a < 2 ^ 32 → byte < 256 → bit_xor a byte < 2 ^ 32
sum_small a byte ha hb = xor_lt 32 a byte ha (omega (arith, hb))

after_byte_small : (a byte : ℕ) → a < 2 ^ 32 → byte < 256 → after_byte a byte < 2 ^ 32
after_byte_small a byte ha hb = times_x4_small (times_x4 (bit_xor a byte))
    (times_x4_small (bit_xor a byte) (sum_small a byte ha hb))

-- A remainder after a byte is that of one sum.
after_byte_same : (a b x y : ℕ) → a < 2 ^ 32 → b < 2 ^ 32 → x < 256 → y < 256
    → after_byte a x ≡ after_byte b y → bit_xor a x ≡ bit_xor b y
after_byte_same a b x y ha hb hx hy same =
    let p = sum_small a x ha hx in let q = sum_small b y hb hy in
    times_x4_same (bit_xor a x) (bit_xor b y) p q
    (times_x4_same (times_x4 (bit_xor a x)) (times_x4 (bit_xor b y))
    (times_x4_small (bit_xor a x) p) (times_x4_small (bit_xor b y) q) same)

rest_small : (a : ℕ) (xs : List ℕ) → a < 2 ^ 32 → AllByRecursion IsByte xs
    → fold after_byte a xs < 2 ^ 32
rest_small a [] ha all = ha
rest_small a (x ∷ xs) ha all = rest_small (after_byte a x) xs (after_byte_small a x ha all.0) all.1

-- Other remainders stay others over equal bytes.
rest_same : (a b : ℕ) (xs : List ℕ) → a < 2 ^ 32 → b < 2 ^ 32 → AllByRecursion IsByte xs
    → fold after_byte a xs ≡ fold after_byte b xs → a ≡ b
rest_same a b [] ha hb all same = same
rest_same a b (x ∷ xs) ha hb all same = xor_same a b x (after_byte_same a b x x ha hb all.0 all.0
    (rest_same (after_byte a x) (after_byte b x) xs (after_byte_small a x ha all.0)
    (after_byte_small b x hb all.0) all.1 same))

-- A byte that was changed is seen.
pub changed : (before after : List ℕ) (x y : ℕ) → AllByRecursion IsByte before
    → AllByRecursion IsByte after → x < 256 → y < 256
    → check_value (before ++ x ∷ after) ≡ check_value (before ++ y ∷ after) → x ≡ y
unfolding check_value
changed before after x y hb ha hx hy same =
    let start : ℕ = 2 ^ 32 - 1 in
    let r : ℕ = fold after_byte start before in
    let small : r < 2 ^ 32 = rest_small start before (lit< tt) hb in
    let px = after_byte_small r x small hx in
    let py = after_byte_small r y small hy in
    let ex : fold after_byte start (before ++ x ∷ after) ≡ fold after_byte (after_byte r x) after =
    fold-append after_byte start before (x ∷ after) in
    let ey : fold after_byte start (before ++ y ∷ after) ≡ fold after_byte (after_byte r y) after =
    fold-append after_byte start before (y ∷ after) in
    let qx = rest_small (after_byte r x) after px ha in
    let qy = rest_small (after_byte r y) after py ha in
    let is : fold after_byte (after_byte r x) after ≡ fold after_byte (after_byte r y) after =
    omega (arith, qx, qy, ex, ey, same) in
    let sums = after_byte_same r r x y small small hx hy
    (rest_same (after_byte r x) (after_byte r y) after px py ha is) in
    xor_same x y r (xor_comm x r ∙ sums ∙ xor_comm r y)
