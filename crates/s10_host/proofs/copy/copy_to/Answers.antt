use Rattle.std.proofs.Common.{refl, subst, Ok, Err}
use Rattle.s10_snapshot.specs.Copies.{WritesCopy}
use Rattle.s10_host.proofs.copy.copy_to.Goals as goal

pub returns-in-Ok-clause-copied : goal.returns-in-Ok-clause-copied
returns-in-Ok-clause-copied g c = (
  Ok tt,
  subst (λ r. WritesCopy c.args.bytes c.write_copy.new.target.calls r) c.in-Ok.is
      c.write_copy.ensures.written,
  c.audit_copy.ensures.copied,
)

pub returns-in-Err-clause-copied : goal.returns-in-Err-clause-copied
returns-in-Err-clause-copied g c = (
  Err c.in-Err.fault,
  subst (λ r. WritesCopy c.args.bytes c.write_copy.new.target.calls r) c.in-Err.is
      c.write_copy.ensures.written,
  (c.requires.unread, refl, c.fail_by_copy.ensures),
)
