use Rattle.std.proofs.Common.{rules}
use Rattle.s10_core.proofs.country.Country.new.Goals as goal

pub returns-in_err-letters-clause-capitals : goal.returns-in_err-letters-clause-capitals
returns-in_err-letters-clause-capitals c = search rules
