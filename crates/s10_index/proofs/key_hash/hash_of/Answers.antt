use Rattle.std.proofs.Common.{◌%◌, ℕ, ap}
use Rattle.s10_index.specs.KeyHash.{hash_by}
use Rattle.s10_index.proofs.key_hash.hash_of.Goals as goal

pub returns : goal.returns
unfolding hash_by
returns c = ap (λ (n : ℕ). n % 4294967296) c.hash_one.ensures
