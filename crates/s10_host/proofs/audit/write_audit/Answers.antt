use Rattle.std.proofs.Common.{rules}
use Rattle.s10_host.proofs.audit.write_audit.Goals as goal

pub returns-in_ok-write_ledger_fault-in-Err : goal.returns-in_ok-write_ledger_fault-in-Err
returns-in_ok-write_ledger_fault-in-Err c = search rules
