use Rattle.std.proofs.Common.{rules}
use Rattle.s10_history.proofs.serials.candidate_in.Goals as goal

pub returns : goal.returns
returns c = search rules
