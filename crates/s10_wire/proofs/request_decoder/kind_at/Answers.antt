use Rattle.std.proofs.Common.{rules}
use Rattle.s10_wire.proofs.request_decoder.kind_at.Goals as goal

pub returns-then-bytes-ne2-clause-refused : goal.returns-then-bytes-ne2-clause-refused
returns-then-bytes-ne2-clause-refused c = search rules

pub returns-in-Some-clause-refused : goal.returns-in-Some-clause-refused
returns-in-Some-clause-refused c = search rules

pub returns-in-Some-clause-read : goal.returns-in-Some-clause-read
returns-in-Some-clause-read c = search rules

pub returns-in-None-clause-refused : goal.returns-in-None-clause-refused
returns-in-None-clause-refused c = search rules
