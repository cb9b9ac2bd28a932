use Rattle.std.proofs.Common.{refl}
use Rattle.s10_cli.proofs.AskLemmas.{no_asker}
use Rattle.s10_cli.proofs.call_jobs.query_job.Goals as goal

pub returns-in_err-asker_of : goal.returns-in_err-asker_of
returns-in_err-asker_of c =
    rw c.from_residual-in_err-asker_of.ensures (no_asker _ _ c.in_err-asker_of.ensures refl)
