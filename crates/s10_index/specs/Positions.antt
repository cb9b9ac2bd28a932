-- Defines the chains that find a call by its key.
use Rattle.std.specs.Prelude.{◌≡◌, List, Some, All, map}
use Rattle.s10_history.specs.declared.entry.Entry.{Entry}
use Rattle.s10_history.specs.History.{find_entry}
use Rattle.s10_ranges.specs.declared.hash_seed.HashSeed.{HashSeed}
use Rattle.s10_index.specs.declared.hash_chains.HashChains.{HashChains}
use Rattle.s10_index.specs.KeyHash.{call_hash}

-- A call is the one with its key.
abbrev pub HasOwnKey : List Entry → Entry → Type 0
HasOwnKey h e = find_entry h e.request.customer e.request.number ≡ Some e

-- The chains have the calls of a history if they have the hash of the key of each call, in order,
-- and each call is the one with its key.
pub record HasPositions (seed : HashSeed) (positions : HashChains) (h : List Entry) : Type 0 where
  pub hashes : positions.hashes ≡ map (λ e. call_hash seed e.request.customer e.request.number) h
  pub keys : All (HasOwnKey h) h
