use Rattle.s10_wire.proofs.Lengths.{request_is_short, reply_is_short}
use Rattle.s10_wire.proofs.laws.datagrams_are_short.Goals as goal

pub returns-clause-request : goal.returns-clause-request
returns-clause-request c = request_is_short

pub returns-clause-reply : goal.returns-clause-reply
returns-clause-reply c = reply_is_short
