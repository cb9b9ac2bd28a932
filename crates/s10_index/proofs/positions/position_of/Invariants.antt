use Rattle.std.proofs.Common.{◌<◌, IfSome, length}
use Rattle.s10_history.specs.History.{has_key}
use Rattle.s10_index.specs.HashChains.{link_to}
use Rattle.s10_index.specs.KeyHash.{call_hash}
use Rattle.s10_index.specs.Positions.{HasPositions}
use Rattle.s10_index.proofs.Keyed.{hash_of_entry}
use Rattle.s10_index.proofs.Walks.{Walks}
use Rattle.s10_index.proofs.positions.position_of.Given as goal

abbrev pub invariant-loop-found : goal.invariant-loop-found
invariant-loop-found l = record {
  within : IfSome l.found (λ place. place < length l.positions.hashes);
  walks : HasPositions l.seed l.positions l.calls.items
      → Walks (has_key l.customer l.number) (hash_of_entry l.seed)
      (call_hash l.seed l.customer l.number) l.calls.items l.found;
}

abbrev pub decreases-loop-found : goal.decreases-loop-found
decreases-loop-found l = link_to l.found
