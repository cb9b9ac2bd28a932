use Rattle.std.proofs.Common.{rules}
use Rattle.s10_ends.proofs.client.Client.submit.Goals as goal

pub returns-clause-ok : goal.returns-clause-ok
returns-clause-ok c = search rules
