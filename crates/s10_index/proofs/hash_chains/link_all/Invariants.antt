use Rattle.std.proofs.Common.{◌≡◌, length}
use Rattle.s10_index.specs.HashChains.{AreEarlier, AreHeads}
use Rattle.s10_index.proofs.hash_chains.link_all.Given as goal

abbrev pub invariant-loop-place : goal.invariant-loop-place
invariant-loop-place l = record {
  lengths : length l.earlier.items ≡ length l.hashes.items;
  room : l.earlier.room ≡ l.fn.earlier.room;
  earlier : AreEarlier l.hashes.items l.earlier.items (length l.heads) l.place;
  heads : AreHeads l.hashes.items l.heads l.place;
}
