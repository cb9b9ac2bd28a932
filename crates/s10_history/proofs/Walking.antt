-- A walk over the serials of a range.
use Rattle.std.proofs.Common.{◌≡◌, ℕ, suc, ◌+◌, ◌-◌, ◌≤◌, Bool, false, cond, Some, sym, ap, arith}
use Rattle.std.specs.Prelude.{find}
use Rattle.std.specs.List.{range_with_len}

serials-at : (p : ℕ → Bool) (low n : ℕ) → p low ≡ false → find p (range_with_len low (suc n))
    ≡ find p (range_with_len (low + 1) n)
serials-at p low n fails = ap (λ b. cond b (Some low) (find p (range_with_len (low + 1) n))) fails

-- A serial that fails the test is skipped.
pub serials-step : (p : ℕ → Bool) (low high : ℕ) → low ≤ high → p low ≡ false
    → find p (range_with_len (low + 1) (high + 1 - (low + 1)))
    ≡ find p (range_with_len low (high + 1 - low))
serials-step p low high le fails =
    let long : high + 1 - low ≡ suc (high + 1 - (low + 1)) = omega arith in
    rw long (sym (serials-at p low (high + 1 - (low + 1)) fails))
