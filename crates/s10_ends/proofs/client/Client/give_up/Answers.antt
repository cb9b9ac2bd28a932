use Rattle.std.proofs.Common.{rules}
use Rattle.s10_ends.proofs.client.Client.give_up.Goals as goal

pub returns-clause-without_pending : goal.returns-clause-without_pending
returns-clause-without_pending c = search rules
