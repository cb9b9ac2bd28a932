use Rattle.std.proofs.Common.{◌≡◌, Some, refl, sym, ap, ◌∙◌, arith}
use Rattle.s10_link.specs.Link.LeadsTo.{none}
use Rattle.s10_link.proofs.Led.{led_on}
use Rattle.s10_ends.specs.Client.{ClientState, next_request}
use Rattle.s10_ends.specs.Calls.TriesInVain.{none as tried_none, more as tried_more}
use Rattle.s10_ends.proofs.Trying.{accepted_call, stopped_call, gave_up_call}
use Rattle.s10_ends.proofs.calls.call.Goals as goal

pub loop-done-init : goal.loop-done-init
loop-done-init g c = record {
  tried = tried_none;
  led = none;
  client = c.in-Ok.ensures.ok.1;
}

pub attempt-requires : goal.attempt-requires
attempt-requires g c =
    let pends : c.loop-done.client.pending ≡ Some (next_request c.args.client.now c.args.body) =
    ap (λ (x : ClientState). x.pending) c.loop-done.invariant.client in
    rw pends refl

pub returns-in-Ok-Some-clause-calls : goal.returns-in-Ok-Some-clause-calls
returns-in-Ok-Some-clause-calls g c =
    accepted_call c.args.client.now c.loop-done.client (g.L.Link.trace_of c.args.link.now)
    (g.L.Link.trace_of c.loop-done.link) (g.L.Link.trace_of c.attempt.new.link) c.args.to
    c.args.body c.args.tries c.loop-done._done c.encode_request-frame.result c.in-Ok.request
    c.in-Ok.ensures.refused c.in-Ok.ensures.ok.0 c.encode_request-frame.ensures
    c.loop-done.invariant.client c.loop-done.invariant.tried c.attempt.new.client
    c.in-Ok-Some.reply (omega arith)
    (rw c.in-Ok-Some.field-0-is at c.in-Ok-Some.ensures.tries)
    (rw c.in-Ok-Some.field-0-is at c.in-Ok-Some.ensures.client)

pub returns-in-Err-attempt-clause-calls : goal.returns-in-Err-attempt-clause-calls
returns-in-Err-attempt-clause-calls g c =
    stopped_call c.args.client.now c.loop-done.client (g.L.Link.trace_of c.args.link.now)
    (g.L.Link.trace_of c.loop-done.link) (g.L.Link.trace_of c.attempt.new.link) c.args.to
    c.args.body c.args.tries c.loop-done._done c.encode_request-frame.result c.in-Ok.request
    c.in-Ok.ensures.refused c.in-Ok.ensures.ok.0 c.encode_request-frame.ensures
    c.loop-done.invariant.client c.loop-done.invariant.tried c.attempt.new.client
    c.give_up.new.self c.in-Err-attempt.fault (omega arith) c.in-Err-attempt.ensures.tries
    c.in-Err-attempt.ensures.client c.give_up.ensures.without_pending

pub loop-done-preserved : goal.loop-done-preserved
loop-done-preserved g c =
    let tries = rw c.in-Ok-None.field-0-is at c.in-Ok-None.ensures.tries in
    let same = rw c.in-Ok-None.field-0-is at c.in-Ok-None.ensures.client in
    let pends : c.loop-done.client.pending ≡ Some (next_request c.args.client.now c.args.body) =
    ap (λ (x : ClientState). x.pending) c.loop-done.invariant.client in
    record {
      tried = tried_more c.loop-done.invariant.tried
          (tries (next_request c.args.client.now c.args.body) pends);
      led = led_on c.loop-done.invariant.led c.attempt.ensures.led;
      client = same ∙ c.loop-done.invariant.client;
    }

pub returns-clause-calls : goal.returns-clause-calls
returns-clause-calls g c =
    gave_up_call c.args.client.now c.loop-done.client (g.L.Link.trace_of c.args.link.now)
    (g.L.Link.trace_of c.loop-done.link) (g.L.Link.trace_of c.loop-done.link) c.args.to
    c.args.body c.args.tries c.loop-done._done c.encode_request-frame.result c.in-Ok.request
    c.in-Ok.ensures.refused c.in-Ok.ensures.ok.0 c.encode_request-frame.ensures
    c.loop-done.invariant.client c.loop-done.invariant.tried c.give_up-2.new.self (omega arith)
    refl c.give_up-2.ensures.without_pending

pub returns-in-Ok-Some-clause-led : goal.returns-in-Ok-Some-clause-led
returns-in-Ok-Some-clause-led g c = led_on c.loop-done.invariant.led c.attempt.ensures.led

pub returns-in-Err-attempt-clause-led : goal.returns-in-Err-attempt-clause-led
returns-in-Err-attempt-clause-led g c = led_on c.loop-done.invariant.led c.attempt.ensures.led

pub returns-in-Err-clause-led : goal.returns-in-Err-clause-led
returns-in-Err-clause-led g c = none

pub returns-in-Err-clause-calls : goal.returns-in-Err-clause-calls
returns-in-Err-clause-calls g c = (sym c.in-Err.ensures.refused, c.in-Err.ensures.err, refl)

pub returns-clause-led : goal.returns-clause-led
returns-clause-led g c = c.loop-done.invariant.led
