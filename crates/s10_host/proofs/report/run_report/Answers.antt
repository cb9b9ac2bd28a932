use Rattle.std.proofs.Common.{refl, inl, inr}
use Rattle.sqlite_wal.specs.Files.{image_at}
use Rattle.s10_host.proofs.Ending.{asked_for, no_report, no_day, unopened, no_files}
use Rattle.s10_host.proofs.report.run_report.Goals as goal

pub returns-in_default : goal.returns-in_default
returns-in_default g c =
    rw c.none.ensures
    (no_day _ (image_at g.S.Start) g.D.Days.gives c.args.kind c.args.day c.args.days.now
    c.new.new.days (g.W.Write.contents c.args.out.now) (g.W.Write.contents c.fail_by_clock.new.out)
    c.fail_by_clock.result c.fail_by_clock.result _
    (no_report g.D.Days.gives c.args.day c.args.days.now c.new.new.days c.args.kind c.new.result
    c.in_default.is c.new.ensures.issues c.new.ensures.dated) c.fail_by_clock.ensures refl refl)

pub returns-in-Err : goal.returns-in-Err
returns-in-Err g c =
    let asked = asked_for g.D.Days.gives c.args.day c.args.days.now c.new.new.days c.args.kind
    c.new.result c.in-Some.report c.in-Some.is c.new.ensures.issues c.new.ensures.dated in
    let ended = c.not_connected.result in
    inr (
      c.in-Some.report,
      asked,
      inl (unopened _ (image_at g.S.Start) c.in-Err.fault _ _ ended.done ended.resources.files
          (inr (inr c.in-Err.ensures.err.0)) c.not_connected.ensures.done
          (no_files _ c.not_connected.ensures.nothing)),
    )

pub returns-in-Ok-connect_to_ledger : goal.returns-in-Ok-connect_to_ledger
returns-in-Ok-connect_to_ledger g c =
    let asked = asked_for g.D.Days.gives c.args.day c.args.days.now c.new.new.days c.args.kind
    c.new.result c.in-Some.report c.in-Some.is c.new.ensures.issues c.new.ensures.dated in
    inr (
      c.in-Some.report,
      asked,
      c.report_on_disk.ensures (image_at g.S.Start) c.in-Ok-connect_to_ledger.ensures.found,
    )

pub returns : goal.returns
returns g c =
    let asked = asked_for g.D.Days.gives c.args.day c.args.days.now c.new.new.days c.args.kind
    c.new.result c.in-Some.report c.in-Some.is c.new.ensures.issues c.new.ensures.dated in
    let failed = c.not_connected-in-Err-connect_to_ledger in
    let ended = failed.result in
    inr (
      c.in-Some.report,
      asked,
      inl (unopened _ (image_at g.S.Start) c.in-Err-connect_to_ledger.fault _ _ ended.done
          ended.resources.files c.in-Err-connect_to_ledger.ensures.refused failed.ensures.done
          (no_files _ failed.ensures.nothing)),
    )
