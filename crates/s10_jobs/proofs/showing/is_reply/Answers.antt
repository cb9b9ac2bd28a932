use Rattle.std.proofs.Common.{rules}
use Rattle.s10_jobs.proofs.showing.is_reply.Goals as goal

pub returns-then-bytes-ge4 : goal.returns-then-bytes-ge4
returns-then-bytes-ge4 c = search rules
