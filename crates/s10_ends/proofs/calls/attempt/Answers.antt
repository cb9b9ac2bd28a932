use Rattle.std.proofs.Common.{refl}
use Rattle.s10_link.proofs.Led.{led_once, led_on}
use Rattle.s10_ends.proofs.Turns.{same_error}
use Rattle.s10_ends.proofs.Trying.{unsent, listened}
use Rattle.s10_ends.proofs.calls.attempt.Goals as goal

pub returns-in_err-send-clause-led : goal.returns-in_err-send-clause-led
returns-in_err-send-clause-led g c = led_once c.send.ensures.step

pub returns-clause-led : goal.returns-clause-led
returns-clause-led g c = led_on (led_once c.send.ensures.step) c.first_accepted.ensures.led

pub returns-in_err-send-clause-tries : goal.returns-in_err-send-clause-tries
returns-in_err-send-clause-tries g c = λ q pends.
    unsent (g.L.Link.trace_of c.args.link.now) (g.L.Link.trace_of c.send.new.self)
    (c.args.to, c.args.frame.now) q c.in_err-send.field-0.0 c.from_residual.result
    c.in_err-send.ensures.trace c.from_residual.ensures.1

pub returns-in_err-send-clause-client : goal.returns-in_err-send-clause-client
returns-in_err-send-clause-client g c =
    rw (same_error c.from_residual.result c.in_err-send.field-0.0 c.from_residual.ensures.1) refl

pub returns-clause-tries : goal.returns-clause-tries
returns-clause-tries g c = λ q pends.
    listened (g.L.Link.trace_of c.args.link.now) (g.L.Link.trace_of c.send.new.self)
    (g.L.Link.trace_of c.first_accepted.new.link) (c.args.to, c.args.frame.now) q
    c.first_accepted.result c.in_ok-send.ensures.trace (c.first_accepted.ensures.hears q pends)

pub returns-clause-client : goal.returns-clause-client
returns-clause-client g c = c.first_accepted.ensures.client
