use Rattle.s10_wire.proofs.Asked.{asked_is_read, refused_asks_nothing}
use Rattle.s10_wire.proofs.request_decoder.decode_request.Goals as goal

pub returns-clause-asked : goal.returns-clause-asked
returns-clause-asked c = asked_is_read c.args.bytes.now c.request_of.result
    c.request_of.ensures.found c.request_of.ensures.refused

pub returns-clause-nothing : goal.returns-clause-nothing
returns-clause-nothing c = refused_asks_nothing c.args.bytes.now c.request_of.result
    c.request_of.ensures.refused
