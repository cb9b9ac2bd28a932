use Rattle.std.proofs.Common.{rules}
use Rattle.s10_core.proofs.service.Service.new.Goals as goal

pub returns-clause-capitals : goal.returns-clause-capitals
returns-clause-capitals c = search rules

pub returns-clause-letters : goal.returns-clause-letters
returns-clause-letters c = search rules
