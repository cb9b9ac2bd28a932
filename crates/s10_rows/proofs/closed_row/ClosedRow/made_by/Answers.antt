use Rattle.std.proofs.Common.{rules}
use Rattle.s10_rows.proofs.closed_row.ClosedRow.made_by.Goals as goal

pub returns-in-Withdraw-Withdrawn : goal.returns-in-Withdraw-Withdrawn
returns-in-Withdraw-Withdrawn c = search rules
