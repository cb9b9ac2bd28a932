use Rattle.std.proofs.Common.{refl}
use Rattle.s10_ends.specs.Turn.{Handles}
use Rattle.s10_ends.proofs.Turns.{taken_with, quiet_is, failed_take}
use Rattle.s10_link.proofs.Led.{led_once}
use Rattle.s10_ends.proofs.receiving.try_handle_next.Goals as goal

pub returns-in_err-from-clause-takes : goal.returns-in_err-from-clause-takes
returns-in_err-from-clause-takes g c =
    failed_take (λ before after b answer. Handles g.B.Book.faults g.B.Book.honest g.B.Book.terms
    g.B.Book.history g.B.Book.committed g.B.Book.clean g.B.Book.may_find before after c.args.day b
    answer)
    (g.L.Link.trace_of c.args.link.now) (g.L.Link.trace_of c.try_receive.new.self) _
    c.in_err-from.field-0.0 c.from_residual.result c.in_err-from.ensures.trace
    c.from_residual.ensures.1

pub returns-in_default-clause-takes : goal.returns-in_default-clause-takes
returns-in_default-clause-takes g c = (
  quiet_is (g.L.Link.trace_of c.args.link.now) (g.L.Link.trace_of c.try_receive.new.self)
      c.in_ok-from.field-0 c.in_ok-from.ensures.trace c.in_default.is,
  refl,
)

pub returns-clause-takes : goal.returns-clause-takes
returns-clause-takes g c = (
  taken_with (g.L.Link.trace_of c.args.link.now) (g.L.Link.trace_of c.try_receive.new.self)
      c.in_ok-from.field-0 c.in-Some.from c.in-Some.packet _ c.in_ok-from.ensures.trace
      c.in-Some.is (cc),
  c.handle_packet-answer.ensures.handles,
)

pub returns-in_err-from-clause-led : goal.returns-in_err-from-clause-led
returns-in_err-from-clause-led g c = led_once c.try_receive.ensures.step

pub returns-in_default-clause-led : goal.returns-in_default-clause-led
returns-in_default-clause-led g c = led_once c.try_receive.ensures.step

pub returns-clause-led : goal.returns-clause-led
returns-clause-led g c = led_once c.try_receive.ensures.step
