use Rattle.std.proofs.Common.{arith, rules}
use Rattle.s10_core.specs.Serial.{check_digit_of}
use Rattle.s10_core.proofs.digits.check_digit.Goals as goal

pub returns-in-10-clause-digit : goal.returns-in-10-clause-digit
unfolding check_digit_of
returns-in-10-clause-digit c = search rules

pub returns-in-11-clause-digit : goal.returns-in-11-clause-digit
unfolding check_digit_of
returns-in-11-clause-digit c = search rules

pub returns-in_default-clause-digit : goal.returns-in_default-clause-digit
unfolding check_digit_of
returns-in_default-clause-digit c = search rules

pub returns-in_default-clause-in_range : goal.returns-in_default-clause-in_range
returns-in_default-clause-in_range c = omega (arith, c.in_default)
