use Rattle.std.proofs.Common.{refl, inr}
use Rattle.sqlite_wal.specs.Files.{image_at}
use Rattle.s10_host.proofs.Ending.{not_audited, no_files}
use Rattle.s10_host.proofs.audit_file.run_audit_on_file.Goals as goal

pub returns-in-Err : goal.returns-in-Err
returns-in-Err g c =
    not_audited _ (image_at g.S.Start) c.in-Err.fault (g.W.Write.contents c.args.out.now)
    (g.W.Write.contents c.not_connected.new.out) c.not_connected.result.done
    c.not_connected.result.done _ (inr (inr c.in-Err.ensures.err.0)) c.not_connected.ensures.done
    refl (no_files _ c.not_connected.ensures.nothing)

pub returns-in-Ok-connect_to_ledger : goal.returns-in-Ok-connect_to_ledger
returns-in-Ok-connect_to_ledger g c =
    c.audit_on_disk.ensures (image_at g.S.Start) c.in-Ok-connect_to_ledger.ensures.found

pub returns : goal.returns
returns g c =
    let failed = c.not_connected-in-Err-connect_to_ledger in
    not_audited _ (image_at g.S.Start) c.in-Err-connect_to_ledger.fault (g.W.Write.contents c.args.out.now)
    (g.W.Write.contents failed.new.out) failed.result.done failed.result.done _
    c.in-Err-connect_to_ledger.ensures.refused failed.ensures.done refl
    (no_files _ failed.ensures.nothing)
