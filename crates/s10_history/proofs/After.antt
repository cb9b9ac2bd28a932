-- The serials of a range after one of its own, wrapping from last to first.
use Rattle.std.proofs.Common.{◌≡◌, ℕ, zero, suc, ◌+◌, ◌-◌, ◌<◌, ◌≤◌, Option, Some, None, ◌⊎◌, inl}
use Rattle.std.proofs.Common.{inr, arith}
use Rattle.std.specs.Option.{unwrap_or, SomeIff}
use Rattle.std.proofs.lemmas.Bool.{cases_eq, eq-eqb, ne_eqb}
use Rattle.s10_history.specs.declared.range.Range.{Range}
use Rattle.s10_history.specs.Issues.{serial_after, serial_after_steps, size_of}

-- A serial is k steps after the mark m, wrapping from last to first.
abbrev pub IsAfterSteps : Range → ℕ → ℕ → ℕ → Type 0
IsAfterSteps r m k v = ((v ≡ m + k) × (m + k ≤ r.last)) ⊎ ((v + (r.last + 1 - r.first) ≡ m + k)
    × (r.last < m + k))

after_next : (r : Range) (m k v : ℕ) → r.first ≤ m → m ≤ r.last → k < size_of r
    → IsAfterSteps r m k v → IsAfterSteps r m (suc k) (serial_after r v)
after_next r m k v low high lt (inl w) =
    elim (cases_eq v r.last) [
      | inl e ↦ rw (eq-eqb v r.last e)
          (inr (omega (arith, w.0, w.1, e), omega (arith, w.0, w.1, e)))
      | inr ne ↦ rw (ne_eqb v r.last ne) (inl (omega (arith, w.0), omega (arith, w.0, w.1, ne)))
    ]
after_next r m k v low high lt (inr w) =
    rw (ne_eqb v r.last (λ e. omega (arith, w.0, w.1, e, lt, low, high)))
    (inr (omega (arith, w.0), omega (arith, w.1)))

pub behind : (r : Range) (m k : ℕ) → r.first ≤ m → m ≤ r.last → k ≤ size_of r
    → IsAfterSteps r m k (serial_after_steps r m k)
behind r m zero low high le = inl (omega arith, omega arith)
behind r m (suc k) low high le = after_next r m k (serial_after_steps r m k) low high (omega arith)
    (behind r m k low high (omega arith))

-- These are serials of the range.
pub after_within : (r : Range) (m k v : ℕ) → r.first ≤ m → m ≤ r.last → k ≤ size_of r
    → IsAfterSteps r m k v → (r.first ≤ v) × (v ≤ r.last)
after_within r m k v low high le (inl w) = (omega (arith, w.0), omega (arith, w.0, w.1))
after_within r m k v low high le (inr w) = (omega (arith, w.0, w.1), omega (arith, w.0, w.1))

-- No two of them are equal, up to the size of the range.
pub after_apart : (r : Range) (m i j u v : ℕ) → r.first ≤ m → m ≤ r.last → i < j → j < size_of r
    → IsAfterSteps r m i u → IsAfterSteps r m j v → u ≡ v → ⊥
after_apart r m i j u v low high lt few (inl a) (inl b) e = omega (arith, a.0, b.0, e)
after_apart r m i j u v low high lt few (inl a) (inr b) e = omega (arith, a.0, b.0, e)
after_apart r m i j u v low high lt few (inr a) (inl b) e = omega (arith, a.1, b.1)
after_apart r m i j u v low high lt few (inr a) (inr b) e = omega (arith, a.0, b.0, e)

-- After as many steps as the range has serials, the mark is reached again.
pub after_lap : (r : Range) (m k v : ℕ) → r.first ≤ m → m ≤ r.last → k ≡ size_of r
    → IsAfterSteps r m k v → v ≡ m
after_lap r m k v low high e (inl w) = absurd (omega (arith, w.1, e))
after_lap r m k v low high e (inr w) = omega (arith, w.0, e)

-- The serial after k steps, by its number.
pub after_low : (r : Range) (m k v : ℕ) → r.first ≤ m → m ≤ r.last → k < size_of r → m + k ≤ r.last
    → v ≡ m + k → v ≡ serial_after_steps r m k
after_low r m k v low high few le is =
    elim (behind r m k low high (omega (arith, few))) [
      | inl w ↦ omega (arith, w.0, is)
      | inr w ↦ absurd (omega (arith, w.1, le))
    ]

pub after_high : (r : Range) (m k v : ℕ) → r.first ≤ m → m ≤ r.last → k < size_of r → r.last < m + k
    → v ≡ m + k - size_of r → v ≡ serial_after_steps r m k
after_high r m k v low high few lt is =
    elim (behind r m k low high (omega (arith, few))) [
      | inl w ↦ absurd (omega (arith, w.1, lt))
      | inr w ↦ omega (arith, w.0, is)
    ]

pub some_value : (o : Option ℕ) (P : Type 0) (v d : ℕ) → SomeIff o P v → P → unwrap_or o d ≡ v
some_value None P v d none holds = absurd (none holds)
some_value (Some x) P v d some holds = some.1
