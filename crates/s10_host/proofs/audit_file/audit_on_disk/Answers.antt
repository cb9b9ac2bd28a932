use Rattle.std.proofs.Common.{refl}
use Rattle.sqlite.specs.Files.{over_files}
use Rattle.s10_host.specs.Files.{IsStoreOf}
use Rattle.s10_host.proofs.Ending.{audited_in}
use Rattle.s10_host.proofs.Opening.{left_clean}
use Rattle.s10_host.proofs.Auditing.{keeps_audited}
use Rattle.s10_host.proofs.audit_file.audit_on_disk.Goals as goal

pub returns : goal.returns
returns g c held found =
    let (finding, counted, written) = c.run_audit-done.ensures in
    let left = c.run_audit-done.result.1 in
    let of : IsStoreOf over_files left c.into_store-store.result = record {
      numbered = c.into_store-store.ensures.numbered;
      sound = c.into_store-store.ensures.sound;
      undone = c.into_store-store.ensures.undone;
      quiet = c.into_store-store.ensures.quiet;
    } in
    audited_in g.F.Disk held c.args.connection left finding _ _ c.run_audit-done.result.0 _
    c.close.result refl found counted written
    (left_clean left c.into_store-store.result c.close.result of.quiet.clean c.close.ensures)
    (record { left = c.into_store-store.result; same = c.close.ensures; of = of })
    (keeps_audited c.args.connection left finding c.into_store-store.result c.close.result
    g.met.F.Disk.seen_may_stay counted of c.close.ensures)
