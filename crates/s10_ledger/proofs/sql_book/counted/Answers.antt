use Rattle.std.proofs.Common.{rules}
use Rattle.s10_ledger.proofs.sql_book.counted.Goals as goal

pub returns-in-Err-clause-faults : goal.returns-in-Err-clause-faults
returns-in-Err-clause-faults c = search rules
