-- Defines the value of chains of hashes, and when their links are right.
use Rattle.std.specs.Prelude.{◌≡◌, ℕ, ◌+◌, ◌%◌, ◌<◌, ◌≤◌, ◌==◌, Bool, List, Option, Some, None, length}
use Rattle.std.specs.Prelude.{slice_index}
use Rattle.s10_index.specs.LastPlace.{last_place}

-- The hashes of the elements in their order, and for how many more memory is reserved.
pub record HashList : Type 0 where
  pub hashes : List ℕ
  pub room : ℕ

-- Whether a hash is in the bucket.
abbrev pub in_bucket : ℕ → ℕ → ℕ → Bool
in_bucket buckets bucket hash = hash % buckets == bucket

-- An index as it is stored: one more, or 0 for none.
abbrev pub link_to : Option ℕ → ℕ
link_to None = 0
link_to (Some i) = i + 1

-- Each element has the index of the last one before it in its bucket.
abbrev pub AreEarlier : List ℕ → List ℕ → ℕ → ℕ → Type 0
AreEarlier hashes earlier buckets n = (i : ℕ) → i < n → slice_index earlier i
    ≡ link_to (last_place (in_bucket buckets (slice_index hashes i % buckets)) hashes i)

-- Each bucket has the index of the last of the first n elements in it.
abbrev pub AreHeads : List ℕ → List ℕ → ℕ → Type 0
AreHeads hashes heads n = (b : ℕ) → b < length heads → slice_index heads b
    ≡ link_to (last_place (in_bucket (length heads) b) hashes n)

-- The links of the elements are right, and the buckets are at least as many as the elements.
pub record AreLinked (hashes earlier heads : List ℕ) : Type 0 where
  pub lengths : length earlier ≡ length hashes
  pub few : length hashes ≤ length heads
  pub limit : length heads ≤ 4294967295
  pub linked : AreEarlier hashes earlier (length heads) (length hashes)
  pub headed : AreHeads hashes heads (length hashes)
