use Rattle.s10_host.proofs.Looking.{looked_report, looked_refused, looked_audit}
use Rattle.s10_host.proofs.snapshot.look_over.Goals as goal

pub returns-in-Ok : goal.returns-in-Ok
returns-in-Ok g c bytes found =
    rw (c.in-Report.is, c.connection_of.ensures)
    (looked_report bytes c.in-Report.report c.args.connection c.in-Ok.ledger.connection
    c.in-Ok.ledger.committed (g.W.Write.contents c.args.out.now)
    (g.W.Write.contents c.report_over.new.out) c.in-Ok.done found c.in-Ok.ensures.reported)

pub returns-in-Err : goal.returns-in-Err
returns-in-Err g c bytes found =
    let refused = c.in-Err.field-0 in
    rw (c.in-Report.is, ← c.in-Err.ensures.silent)
    (looked_refused bytes c.in-Report.report c.args.connection refused.connection
    refused.refusal.fault (g.W.Write.contents c.report_over.new.out)
    (g.W.Write.contents c.fail_by_ledger.new.out) c.fail_by_ledger.result found
    c.in-Err.ensures.refused c.fail_by_ledger.ensures)

pub returns-in-Audit : goal.returns-in-Audit
returns-in-Audit g c bytes found =
    let (finding, counted, written) = c.run_audit.ensures in
    rw c.in-Audit.is
    (looked_audit bytes c.args.connection c.run_audit.result.1
    (g.W.Write.contents c.args.out.now) (g.W.Write.contents c.run_audit.new.output)
    c.run_audit.result.0 finding found counted written)
