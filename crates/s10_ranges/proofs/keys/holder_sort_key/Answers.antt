use Rattle.std.proofs.Common.{arith}
use Rattle.s10_ranges.specs.Keys.{holder_key}
use Rattle.s10_ranges.proofs.keys.holder_sort_key.Goals as goal

pub returns-clause-value : goal.returns-clause-value
unfolding holder_key
returns-clause-value c = omega (
  arith,
  c.from.ensures,
  c.from-2.ensures,
  c.pair_number.ensures.value,
)
