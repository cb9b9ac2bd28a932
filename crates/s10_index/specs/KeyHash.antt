-- Defines the hashes of the keys of calls and of identifiers.
use Rattle.std.specs.Prelude.{ℕ, ◌+◌, ◌*◌, ◌%◌, ◌^◌, fold}
use Rattle.std.specs.Hash as written
use Rattle.std.specs.Hash.DefaultHasher as sip
use Rattle.s10_core.specs.declared.id.Id.{Id}
use Rattle.s10_core.specs.Pair.{pair_of}
use Rattle.s10_ranges.specs.declared.hash_seed.HashSeed.{HashSeed}

-- The hash of a number of 64 bits, by the seed.
unfoldable pub hash_by : HashSeed → ℕ → ℕ
hash_by seed key = sip.finish (fold sip.write seed.start (written.u64 key)) % 2 ^ 32

-- The hash of the key of a call: customer and number as one number.
abbrev pub call_hash : HashSeed → ℕ → ℕ → ℕ
call_hash seed customer number = hash_by seed (customer * 2 ^ 32 + number)

-- The hash of an identifier: its pair and its serial as one number.
abbrev pub id_hash : HashSeed → Id → ℕ
id_hash seed x = hash_by seed (pair_of x.service x.country * 2 ^ 32 + x.serial)
