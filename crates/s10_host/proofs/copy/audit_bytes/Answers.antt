use Rattle.s10_host.specs.Files.{IsFileFault}
use Rattle.s10_host.proofs.Ending.{fails_by}
use Rattle.s10_host.proofs.Looking.{memory_is_clean}
use Rattle.s10_host.proofs.copy.audit_bytes.Goals as goal

pub returns-in-Ok : goal.returns-in-Ok
returns-in-Ok g c =
    let left = c.audit_ledger-found.result.1 in
    let counted = c.audit_ledger-found.ensures in
    record {
      was = c.in-Ok.connection;
      found = c.in-Ok.ensures.found;
      finding = c.audit_ledger-found.result.0;
      opened = counted.opened (memory_is_clean left);
      right = counted.finding (memory_is_clean left);
      written = c.write_copied.ensures;
    }

pub returns-in-Err : goal.returns-in-Err
returns-in-Err g c =
    fails_by IsFileFault c.in-Err.fault (g.W.Write.contents c.args.out.now)
    (g.W.Write.contents c.fail_by_ledger.new.out) c.fail_by_ledger.result
    c.in-Err.ensures.refused c.fail_by_ledger.ensures
