-- The number of a service and a country.
use Rattle.std.proofs.Common.{◌≡◌, ℕ, zero, suc, ◌^◌, ◌<◌, [], ◌∷◌, get_or, refl, sym, ap, ◌∙◌}
use Rattle.std.proofs.Common.{arith}
use Rattle.std.specs.Int.{w32, from_be_bytes, to_be_bytes}
use Rattle.std.proofs.lemmas.Nat.{be_bytes_4, from_be_bytes-to_be_bytes_4}
use Rattle.s10_core.specs.Letters.{AreCapitals}
use Rattle.s10_core.specs.Pair.{pair_of}

each_byte : (s c : ℕ × ℕ) → AreCapitals s → AreCapitals c → (i : ℕ)
    → get_or (s.0 ∷ s.1 ∷ c.0 ∷ c.1 ∷ []) i 0 < 256
each_byte s c p q zero = omega (arith, p.0.1)
each_byte s c p q (suc zero) = omega (arith, p.1.1)
each_byte s c p q (suc (suc zero)) = omega (arith, q.0.1)
each_byte s c p q (suc (suc (suc zero))) = omega (arith, q.1.1)
each_byte s c p q (suc (suc (suc (suc i)))) = omega arith

-- The four bytes of the number are the letters.
pub pair_bytes : (n : ℕ) (s c : ℕ × ℕ) → AreCapitals s → AreCapitals c → n ≡ pair_of s c
    → to_be_bytes w32 n ≡ s.0 ∷ s.1 ∷ c.0 ∷ c.1 ∷ []
unfolding pair_of
pair_bytes n s c p q is = be_bytes_4 (s.0 ∷ s.1 ∷ c.0 ∷ c.1 ∷ []) n refl (each_byte s c p q) is

pub pair_fits : (s c : ℕ × ℕ) → AreCapitals s → AreCapitals c → pair_of s c < 2 ^ 32
unfolding pair_of
pair_fits s c p q = omega (arith, p.0.1, p.1.1, q.0.1, q.1.1)

-- A number is the pair of the letters that its bytes are.
pub pair_from_bytes : (n : ℕ) (s c : ℕ × ℕ) → n < 2 ^ 32 → to_be_bytes w32 n ≡ s.0 ∷ s.1 ∷ c.0 ∷ c.1
    ∷ [] → n ≡ pair_of s c
unfolding pair_of
pair_from_bytes n s c fit is = sym (from_be_bytes-to_be_bytes_4 n fit) ∙ ap (from_be_bytes w32) is

same_letters_of : (s t : ℕ × ℕ) → s.0 ≡ t.0 → s.1 ≡ t.1 → s ≡ t
same_letters_of s t p q = λ i. (p i, q i)

-- Two pairs with the same number have the same service and country.
pub one_pair : (s c t d : ℕ × ℕ) → AreCapitals s → AreCapitals c → AreCapitals t → AreCapitals d
    → pair_of s c ≡ pair_of t d → (s ≡ t) × (c ≡ d)
one_pair s c t d p q u v is =
    let bytes : s.0 ∷ s.1 ∷ c.0 ∷ c.1 ∷ [] ≡ t.0 ∷ t.1 ∷ d.0 ∷ d.1 ∷ [] =
    sym (pair_bytes (pair_of s c) s c p q refl) ∙ pair_bytes (pair_of s c) t d u v is in (
      same_letters_of s t (ap (λ l. get_or l 0 0) bytes) (ap (λ l. get_or l 1 0) bytes),
      same_letters_of c d (ap (λ l. get_or l 2 0) bytes) (ap (λ l. get_or l 3 0) bytes),
    )
