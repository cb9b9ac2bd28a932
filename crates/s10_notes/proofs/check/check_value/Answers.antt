use Rattle.std.proofs.Common.{arith}
use Rattle.std.proofs.lemmas.Grind.{common_steps}
use Rattle.s10_notes.specs.CheckValue.{check_value}
use Rattle.s10_notes.proofs.check.check_value.Goals as goal

pub returns : goal.returns
unfolding check_value
returns c = grind (arith, common_steps)
