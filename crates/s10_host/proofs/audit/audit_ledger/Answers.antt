use Rattle.std.proofs.Common.{rules, sym}
use Rattle.s10_host.proofs.Auditing.{found_calls}
use Rattle.s10_host.proofs.audit.audit_ledger.Goals as goal

pub returns-in-Ok : goal.returns-in-Ok
returns-in-Ok g c =
    found_calls g.S.Store c.args.connection c.close-connection.result.connection c.in-Ok.book
    c.len-count.result (c.close-connection.ensures.same c.in-Ok.ensures.none_pending)
    c.in-Ok.ensures.opened c.in-Ok.ensures.honest c.in-Ok.ensures.found c.in-Ok.ensures.same
    c.in-Ok.ensures.history c.in-Ok.ensures.was c.in-Ok.ensures.none_pending
    c.len-count.ensures.answer c.in-Ok.ensures.committed c.in-Ok.ensures.crash

pub returns-in-Err : goal.returns-in-Err
returns-in-Err g c = record {
  sound = c.in-Err.ensures.was_refused;
  opened = λ _. tt;
  committed = λ clean live. sym (c.is_autocommit.ensures.settled (search rules) live);
  finding = c.in-Err.ensures.refused;
  leaves = c.in-Err.ensures.kept;
  crash = c.in-Err.ensures.crash_refused;
}
