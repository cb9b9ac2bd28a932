-- The parts of a reply.
use Rattle.s10_wire.specs.declared.reply.Reply.{Reply}
use Rattle.s10_wire.specs.declared.request.Request.{Request}
use Rattle.s10_wire.specs.declared.outcome.Outcome.{Outcome}

-- The request that is replied to.
abbrev pub request_of : Reply → Request
request_of reply = reply.request

-- The outcome of the request.
abbrev pub outcome_of : Reply → Outcome
outcome_of reply = reply.outcome
