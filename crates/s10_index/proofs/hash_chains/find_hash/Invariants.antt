use Rattle.std.proofs.Common.{◌≡◌, ℕ, ◌%◌, ◌≤◌, length}
use Rattle.s10_index.specs.LastPlace.{last_place}
use Rattle.s10_index.specs.HashChains.{AreEarlier, in_bucket, link_to}
use Rattle.s10_index.proofs.Chained.{Follows}
use Rattle.s10_index.proofs.hash_chains.find_hash.Given as goal

abbrev pub invariant-loop-next : goal.invariant-loop-next
invariant-loop-next l = record {
  within : l.next ≤ length l.hashes.items;
  follows : (buckets n : ℕ) → AreEarlier l.hashes.items l.earlier.items buckets (length l.hashes.items)
      → l.from ≡ link_to (last_place (in_bucket buckets (l.hash % buckets)) l.hashes.items n)
      → Follows l.hashes.items buckets l.hash n l.next;
}

abbrev pub decreases-loop-next : goal.decreases-loop-next
decreases-loop-next l = l.next
