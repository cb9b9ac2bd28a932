use Rattle.s10_jobs.proofs.questioning.call_request.Goals as goal

pub returns-clause-calls : goal.returns-clause-calls
returns-clause-calls g c = (
  c.call.new.client,
  rw (c.in-Ok.ensures.1, c.count.ensures.value) at c.call.ensures.calls,
)
