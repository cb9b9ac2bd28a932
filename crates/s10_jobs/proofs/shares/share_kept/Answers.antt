use Rattle.std.proofs.Common.{refl, arith}
use Rattle.s10_jobs.proofs.shares.share_kept.Goals as goal

pub returns-then-kept-limit-2-clause-one : goal.returns-then-kept-limit-2-clause-one
returns-then-kept-limit-2-clause-one c = (2, omega arith, refl)
