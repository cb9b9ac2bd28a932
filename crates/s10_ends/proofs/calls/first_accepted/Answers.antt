use Rattle.std.proofs.Common.{◌≡◌, Some, refl, sym, ap, ◌∙◌, arith}
use Rattle.std.specs.Prelude.{IsSome}
use Rattle.s10_link.specs.Link.LeadsTo.{none, more}
use Rattle.s10_wire.specs.declared.request.Request.{Request}
use Rattle.s10_wire.specs.declared.outcome.Outcome.{Outcome}
use Rattle.s10_wire.specs.Datagrams.{Replies}
use Rattle.s10_ends.specs.Client.{ClientState, without_pending}
use Rattle.s10_ends.proofs.Turns.{same_error, taken_is, quiet_is}
use Rattle.s10_ends.proofs.Listening.{unaccepted, unaccepted_packet, hearing_none, hearing_datagram}
use Rattle.s10_ends.proofs.Listening.{hears_quiet, hears_eight, hears_failed, hears_reply}
use Rattle.s10_ends.proofs.calls.first_accepted.Goals as goal

pub loop-read-init : goal.loop-read-init
loop-read-init g c = record {
  hearing = hearing_none c.args.client.now (g.L.Link.trace_of c.args.link.now);
  led = none;
  client = refl;
}

pub returns-in_err-packet-clause-hears : goal.returns-in_err-packet-clause-hears
returns-in_err-packet-clause-hears g c = λ q pends.
    rw (same_error c.from_residual.result c.in_err-packet.field-0.0 c.from_residual.ensures.1)
    (hears_failed _ _ (g.L.Link.trace_of c.loop-read.link) c.loop-read._read
    c.loop-read.invariant.hearing q pends (g.L.Link.trace_of c.receive.new.self)
    c.in_err-packet.field-0.0 (omega arith) c.in_err-packet.ensures.trace)

pub returns-in_err-packet-clause-client : goal.returns-in_err-packet-clause-client
returns-in_err-packet-clause-client g c =
    rw (same_error c.from_residual.result c.in_err-packet.field-0.0 c.from_residual.ensures.1)
    c.loop-read.invariant.client

pub returns-in_default-clause-hears : goal.returns-in_default-clause-hears
returns-in_default-clause-hears g c = λ q pends.
    hears_quiet _ _ (g.L.Link.trace_of c.loop-read.link) c.loop-read._read
    c.loop-read.invariant.hearing q pends (g.L.Link.trace_of c.receive.new.self) (omega arith)
    (quiet_is (g.L.Link.trace_of c.loop-read.link) (g.L.Link.trace_of c.receive.new.self)
    c.in_ok-packet.field-0 c.in_ok-packet.ensures.trace c.in_default.is)

pub returns-in_default-clause-client : goal.returns-in_default-clause-client
returns-in_default-clause-client g c = c.loop-read.invariant.client

pub returns-in-Accepted-clause-hears : goal.returns-in-Accepted-clause-hears
returns-in-Accepted-clause-hears g c = λ q pends.
    hears_reply _ _ (g.L.Link.trace_of c.loop-read.link) c.loop-read._read
    c.loop-read.invariant.hearing q pends c.take.new.client _
    (g.L.Link.trace_of c.receive.new.self) c.in-Some.field-0-0 c.in-Some.packet c.in-Accepted.reply
    (omega arith)
    (taken_is (g.L.Link.trace_of c.loop-read.link) (g.L.Link.trace_of c.receive.new.self)
    c.in_ok-packet.field-0 (c.in-Some.field-0-0, c.in-Some.packet) c.in_ok-packet.ensures.trace
    c.in-Some.is)
    (cc)
    (ap (λ (x : ClientState). x.pending) (sym c.loop-read.invariant.client)
    ∙ c.in-Accepted.ensures.0.0)
    c.in-Accepted.ensures.0.1

pub returns-in-Accepted-clause-client : goal.returns-in-Accepted-clause-client
returns-in-Accepted-clause-client g c = (
  ap (λ (x : ClientState). x.pending) (sym c.loop-read.invariant.client)
      ∙ c.in-Accepted.ensures.0.0,
  c.in-Accepted.ensures.1 ∙ ap without_pending c.loop-read.invariant.client,
)

pub loop-read-preserved : goal.loop-read-preserved
loop-read-preserved g c =
    let taken = taken_is (g.L.Link.trace_of c.loop-read.link) (g.L.Link.trace_of c.receive.new.self)
    c.in_ok-packet.field-0 (c.in-Some.field-0-0, c.in-Some.packet) c.in_ok-packet.ensures.trace
    c.in-Some.is in
    let pends : IsSome c.loop-read.client.pending = rw c.loop-read.invariant.client c.requires in
    let kept = unaccepted c.loop-read.client c.take.new.client _ c.take.result c.take.ensures
    c.in_default-take.not-Accepted pends in
    let other : (q : Request) → c.args.client.now.pending ≡ Some q → (o : Outcome)
    → ¬ (Replies c.in-Some.packet q o) =
    unaccepted_packet c.loop-read.client c.args.client.now _ c.in-Some.packet
    c.loop-read.invariant.client (cc) kept.1 in
    record {
      hearing = hearing_datagram c.args.client.now (g.L.Link.trace_of c.args.link.now)
          (g.L.Link.trace_of c.loop-read.link) (g.L.Link.trace_of c.receive.new.self)
          c.loop-read._read c.in-Some.field-0-0 c.in-Some.packet c.loop-read.invariant.hearing taken
          other;
      led = more c.loop-read.invariant.led c.receive.ensures.step;
      client = kept.0 ∙ c.loop-read.invariant.client;
    }

pub returns-clause-hears : goal.returns-clause-hears
returns-clause-hears g c = λ q pends.
    hears_eight _ _ (g.L.Link.trace_of c.loop-read.link) c.loop-read._read
    c.loop-read.invariant.hearing q pends (omega arith)

pub returns-clause-client : goal.returns-clause-client
returns-clause-client g c = c.loop-read.invariant.client

pub returns-in_err-packet-clause-led : goal.returns-in_err-packet-clause-led
returns-in_err-packet-clause-led g c = more c.loop-read.invariant.led c.receive.ensures.step

pub returns-in_default-clause-led : goal.returns-in_default-clause-led
returns-in_default-clause-led g c = more c.loop-read.invariant.led c.receive.ensures.step

pub returns-in-Accepted-clause-led : goal.returns-in-Accepted-clause-led
returns-in-Accepted-clause-led g c = more c.loop-read.invariant.led c.receive.ensures.step
