use Rattle.std.proofs.Common.{◌≡◌, ◌≤◌, length, take, take_all, arith}
use Rattle.std.proofs.lemmas.Grind.{common_steps}
use Rattle.s10_ledger.proofs.pending.commit_calls.Goals as goal

pub returns-clause-ok : goal.returns-clause-ok
returns-clause-ok g c =
    let within : length c.args.pending.now.items ≤ c.len-all.result = grind (arith, common_steps) in
    let all : take c.len-all.result c.args.pending.now.items ≡ c.args.pending.now.items =
    take_all c.len-all.result c.args.pending.now.items within in
    rw all at c.commit_first.ensures.ok

pub returns-clause-crash : goal.returns-clause-crash
returns-clause-crash g c =
    let within : length c.args.pending.now.items ≤ c.len-all.result = grind (arith, common_steps) in
    let all : take c.len-all.result c.args.pending.now.items ≡ c.args.pending.now.items =
    take_all c.len-all.result c.args.pending.now.items within in
    rw all at c.commit_first.ensures.crash
