use Rattle.std.proofs.Common.{refl}
use Rattle.s10_ends.proofs.Sending.{send_failed}
use Rattle.s10_ends.proofs.Turns.{same_error}
use Rattle.s10_link.proofs.Led.{led_once}
use Rattle.s10_ends.proofs.replying.send.Goals as goal

pub returns-in_err-send-clause-answers : goal.returns-in_err-send-clause-answers
returns-in_err-send-clause-answers g c =
    rw (same_error c.from_residual.result c.in_err-send.field-0.0 c.from_residual.ensures.1)
    (send_failed _ _ c.args.to c.args.frame c.in_err-send.field-0.0 c.in_err-send.ensures.trace).0

pub returns-in_err-send-clause-sends : goal.returns-in_err-send-clause-sends
returns-in_err-send-clause-sends g c =
    rw (same_error c.from_residual.result c.in_err-send.field-0.0 c.from_residual.ensures.1)
    (send_failed _ _ c.args.to c.args.frame c.in_err-send.field-0.0 c.in_err-send.ensures.trace).1

pub returns-clause-answers : goal.returns-clause-answers
returns-clause-answers g c = refl

pub returns-clause-sends : goal.returns-clause-sends
returns-clause-sends g c = c.in_ok-send.ensures.trace

pub returns-in_err-send-clause-led : goal.returns-in_err-send-clause-led
returns-in_err-send-clause-led g c = led_once c.send.ensures.step

pub returns-clause-led : goal.returns-clause-led
returns-clause-led g c = led_once c.send.ensures.step
