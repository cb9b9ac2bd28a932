use Rattle.std.proofs.Common.{◌≡◌, refl, subst, sym, Ok, Err}
use Rattle.s10_snapshot.specs.Readings.{IsTaken}
use Rattle.s10_host.specs.Copying.{HasCopied}
use Rattle.s10_host.proofs.Ending.{fails_by, no_copy}
use Rattle.s10_rows.specs.declared.open_fault.OpenFault.TheVariants.{Store}
use Rattle.s10_host.proofs.copy.run_copy.Goals as goal

pub returns-in-Err : goal.returns-in-Err
returns-in-Err g c =
    subst (HasCopied c.args.ledger.now c.args.to.now (g.W.Write.contents c.args.out.now)
    (g.W.Write.contents c.not_connected.new.out) c.not_connected.result.done)
    (sym (no_copy _ c.not_connected.ensures.nothing))
    (fails_by (λ fault. fault ≡ Store) c.in-Err.fault _ _ c.not_connected.result.done
    c.in-Err.ensures.err.0 c.not_connected.ensures.done)

pub returns-in-Ok-take_snapshot : goal.returns-in-Ok-take_snapshot
returns-in-Ok-take_snapshot g c = record {
  from = rw c.take_snapshot.ensures.at (rw c.new-source.ensures refl);
  at = rw c.copy_to-done.ensures.at (rw c.new-target.ensures refl);
  again_at = rw c.copy_to-done.ensures.again_at (rw c.new-again.ensures refl);
  snapshot = Ok c.in-Ok-take_snapshot.bytes;
  taken = subst (λ r. IsTaken c.take_snapshot.new.source.calls r) c.in-Ok-take_snapshot.is
      c.take_snapshot.ensures.taken;
  ends = c.copy_to-done.ensures.copied;
}

pub returns-in-Err-take_snapshot : goal.returns-in-Err-take_snapshot
returns-in-Err-take_snapshot g c = record {
  from = rw c.take_snapshot.ensures.at (rw c.new-source.ensures refl);
  at = rw c.new-target.ensures refl;
  again_at = rw c.new-again.ensures refl;
  snapshot = Err c.in-Err-take_snapshot.fault;
  taken = subst (λ r. IsTaken c.take_snapshot.new.source.calls r) c.in-Err-take_snapshot.is
      c.take_snapshot.ensures.taken;
  ends = (
    rw c.new-target.ensures refl,
    rw c.new-again.ensures refl,
    refl,
    c.fail_by_snapshot.ensures,
  );
}
