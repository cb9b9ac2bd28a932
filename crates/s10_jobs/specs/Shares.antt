-- How near a ledger is to its limit.
use Rattle.std.specs.Prelude.{ℕ, ◌*◌, ◌≤◌, [], ◌∷◌, All}

-- Of each hundred calls of the limit, so many are kept at least.
abbrev pub IsReached : ℕ → ℕ → ℕ → Type 0
IsReached calls limit share = share * limit ≤ calls * 100

-- The share is no less than each of those that are reported and reached.
abbrev pub IsGreatestReached : ℕ → ℕ → ℕ → Type 0
IsGreatestReached calls limit share = All (λ other. IsReached calls limit other → other ≤ share)
    (90 ∷ 95 ∷ 99 ∷ [])
