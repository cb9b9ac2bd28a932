use Rattle.std.proofs.Common.{◌≡◌, ℕ, ◌<◌, true}
use Rattle.s10_ranges.specs.Rests.{rests_along}
use Rattle.s10_ranges.proofs.lookups.first_awake.Given as goal

abbrev pub invariant-loop-place : goal.invariant-loop-place
invariant-loop-place l = (j : ℕ) → j < l.place-index
    → rests_along l.marks l.rests l.places l.day l.interval j ≡ true
