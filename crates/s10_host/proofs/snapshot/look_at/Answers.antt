use Rattle.s10_host.specs.Files.{IsFileFault}
use Rattle.s10_host.proofs.Ending.{fails_by}
use Rattle.s10_host.proofs.snapshot.look_at.Goals as goal

pub returns-in-Ok-clause-looked : goal.returns-in-Ok-clause-looked
returns-in-Ok-clause-looked g c = c.look_over-done.ensures c.args.bytes c.in-Ok.ensures.found

pub returns-in-Err-clause-unopened : goal.returns-in-Err-clause-unopened
returns-in-Err-clause-unopened g c none =
    fails_by IsFileFault c.in-Err.fault (g.W.Write.contents c.args.out.now)
    (g.W.Write.contents c.fail_by_ledger.new.out) c.fail_by_ledger.result
    c.in-Err.ensures.refused c.fail_by_ledger.ensures
