use Rattle.std.proofs.Common.{rules}
use Rattle.s10_ends.proofs.ClientReceiving.{no_reply, nothing_waits, of_another}
use Rattle.s10_ends.proofs.client.Client.receive.Goals as goal

pub returns-in-Err : goal.returns-in-Err
returns-in-Err c = no_reply c.args.self.now c.args.datagram.now c.in-Err.fault
    c.in-Err.ensures.nothing c.in-Err.ensures.refused

pub returns-in-None : goal.returns-in-None
returns-in-None c = nothing_waits _ c.args.self.now c.self.view_is c.args.datagram.now c.in-Ok.reply
    c.in-Ok.ensures.found c.in-None.is

pub returns-then-not-same_request : goal.returns-then-not-same_request
returns-then-not-same_request c =
    of_another _ c.args.self.now c.self.view_is c.args.datagram.now c.in-Ok.reply
    c.in-Ok.ensures.found c.in-Some.request c.request.result c.in-Some.is c.request.ensures
    c.same_request.result c.same_request.ensures
    c.if-not-same_request.true

pub invariant_of-self : goal.invariant_of-self
invariant_of-self c = record {
  ordered = c.self.invariant.ordered;
  within = c.self.invariant.within;
  latest = tt;
}

pub returns : goal.returns
returns c = search rules
