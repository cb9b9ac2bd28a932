use Rattle.std.proofs.Common.{rules}
use Rattle.s10_ledger.proofs.opening.table_layout.table_layout_of.Goals as goal

pub returns-then-is_old_schema-clause-none : goal.returns-then-is_old_schema-clause-none
returns-then-is_old_schema-clause-none c = search rules
