use Rattle.std.proofs.Common.{refl, subst, Ok, Err}
use Rattle.s10_snapshot.specs.Readings.{IsTaken}
use Rattle.s10_host.proofs.copy.audit_copy.Goals as goal

pub returns-in-Ok-clause-copied : goal.returns-in-Ok-clause-copied
returns-in-Ok-clause-copied g c = (
  Ok c.in-Ok.bytes,
  subst (λ r. IsTaken c.take_snapshot.new.source.calls r) c.in-Ok.is
      c.take_snapshot.ensures.taken,
  c.audit_bytes.ensures,
)

pub returns-in-Err-clause-copied : goal.returns-in-Err-clause-copied
returns-in-Err-clause-copied g c = (
  Err c.in-Err.fault,
  subst (λ r. IsTaken c.take_snapshot.new.source.calls r) c.in-Err.is
      c.take_snapshot.ensures.taken,
  (refl, c.fail_by_snapshot.ensures),
)
