use Rattle.std.proofs.Common.{rules}
use Rattle.s10_wire.proofs.request_decoder.grant_at.Goals as goal

pub returns-in_err-first-clause-refused : goal.returns-in_err-first-clause-refused
returns-in_err-first-clause-refused c = search rules

pub returns-clause-read : goal.returns-clause-read
returns-clause-read c = search rules

pub returns-clause-refused : goal.returns-clause-refused
returns-clause-refused c = search rules
