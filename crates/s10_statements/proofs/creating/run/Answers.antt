use Rattle.s10_statements.proofs.StepLemmas.{ran, not_ran}
use Rattle.s10_statements.proofs.creating.run.Goals as goal

pub returns : goal.returns
returns g c = ran c.in_ok-execute.ensures.same_reference c.in_ok-execute.ensures.survives
    c.in_ok-execute.ensures.runs (λ opened did. (opened, (c.in_ok-execute.field-0, did)))

pub returns-in_err-execute : goal.returns-in_err-execute
returns-in_err-execute g c = not_ran c.in_err-execute.ensures.same_reference
    c.in_err-execute.ensures.survives _ c.from_residual.result c.from_residual.ensures.1
    c.in_err-execute.ensures.runs
