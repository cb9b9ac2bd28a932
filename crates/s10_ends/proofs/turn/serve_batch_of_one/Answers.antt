use Rattle.std.proofs.Common.{[], ◌∷◌}
use Rattle.s10_ends.proofs.Batches.{one_failed, one_quiet, one_served}
use Rattle.s10_ends.proofs.Standing.{turn_of_batch}
use Rattle.s10_link.proofs.Led.{led_on}
use Rattle.s10_ends.proofs.turn.serve_batch_of_one.Goals as goal

pub returns-in_err-taken-clause-served : goal.returns-in_err-taken-clause-served
returns-in_err-taken-clause-served g c = (
  [],
  one_failed _ _ _ _ _ _ _ c.args.day _ _
      c.in_err-taken.field-0.0 c.from_residual.result c.in_err-taken.ensures.takes
      c.from_residual.ensures.1,
)

pub returns-in_err-taken-clause-stands : goal.returns-in_err-taken-clause-stands
returns-in_err-taken-clause-stands g c = turn_of_batch _ _ _ _ _ _ _ c.args.day _ _ _
    (returns-in_err-taken-clause-served g c)

pub returns-in_default-clause-served : goal.returns-in_default-clause-served
returns-in_default-clause-served g c = (
  [],
  one_quiet _ _ _ _ _ _ _ c.args.day _ _
      c.in_ok-taken.field-0 c.in_ok-taken.ensures.takes c.in_default.is,
)

pub returns-clause-served : goal.returns-clause-served
returns-clause-served g c = (
  c.in-Some.taken ∷ [],
  one_served _ _ _ _ _ _ _ c.args.day _ _ _ c.in_ok-taken.field-0
      c.in-Some.taken c.commit_if_pending-commit_result.result c.answer.result
      c.in_ok-taken.ensures.takes c.in-Some.is c.commit_if_pending-commit_result.ensures
      c.answer.ensures.answers c.answer.ensures.sends,
)

pub returns-clause-stands : goal.returns-clause-stands
returns-clause-stands g c = turn_of_batch _ _ _ _ _ _ _ c.args.day _ _ _ (returns-clause-served g c)

pub returns-clause-led : goal.returns-clause-led
returns-clause-led g c = led_on c.in_ok-taken.ensures.led c.answer.ensures.led
