use Rattle.s10_host.proofs.audit.run_audit.Goals as goal

pub returns : goal.returns
returns g c = (c.audit_ledger-found.result.0, c.audit_ledger-found.ensures, c.write_audit.ensures)
