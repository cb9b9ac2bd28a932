use Rattle.std.proofs.Common.{rules}
use Rattle.s10_ends.proofs.server.Server.commit.Goals as goal

pub returns : goal.returns
returns c = search rules
