use Rattle.std.proofs.Common.{ap, rules}
use Rattle.s10_index.specs.CallLog.{CallList}
use Rattle.s10_index.proofs.call_log.CallLog.reserve.Goals as goal

pub invariant_of-self : goal.invariant_of-self
invariant_of-self c = rw c.reserve.ensures.items c.self.invariant

pub invariant_of-self-2 : goal.invariant_of-self-2
invariant_of-self-2 c = rw (c.reserve.ensures.items, c.reserve-2.ensures.items) c.self.invariant

pub returns-clause-calls : goal.returns-clause-calls
returns-clause-calls c = rw (c.reserve.ensures.items, c.reserve-2.ensures.items)
    (ap (λ (calls : CallList). calls.items) c.self.view_is)

pub returns-clause-room : goal.returns-clause-room
returns-clause-room c = search rules
