use Rattle.std.proofs.Common.{rules}
use Rattle.s10_link.proofs.Bound.{still_bound}
use Rattle.s10_jobs.proofs.serving.serve_at.Goals as goal

pub returns-clause-served : goal.returns-clause-served
returns-clause-served g c = search rules

pub returns-clause-turns : goal.returns-clause-turns
returns-clause-turns g c = search rules

pub returns-clause-at : goal.returns-clause-at
returns-clause-at g c = still_bound c.args.at _ _ c.serve_turns-served.ensures.led
    c.in-Ok.ensures.at
