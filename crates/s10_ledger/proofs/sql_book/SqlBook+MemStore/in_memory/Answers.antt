use Rattle.std.proofs.Common.{refl}
use Rattle.sqlite.proofs.Callers.{memory_is_clean}
use Rattle.s10_ledger.proofs.sql_book.SqlBook+MemStore.in_memory.Goals as goal

pub returns-in-Ok-create-clause-honest : goal.returns-in-Ok-create-clause-honest
returns-in-Ok-create-clause-honest c =
    c.in-Ok-create.ensures.honest (memory_is_clean c.in-Ok-create.book.conn) refl

pub returns-in-Ok-create-clause-empty : goal.returns-in-Ok-create-clause-empty
returns-in-Ok-create-clause-empty c =
    c.in-Ok-create.ensures.empty
    (c.in-Ok-create.ensures.honest (memory_is_clean c.in-Ok-create.book.conn) refl)

pub returns-in-Ok-create-clause-alone : goal.returns-in-Ok-create-clause-alone
returns-in-Ok-create-clause-alone c =
    c.in-Ok-create.ensures.alone
    (c.in-Ok-create.ensures.honest (memory_is_clean c.in-Ok-create.book.conn) refl)

pub returns-in-Ok-create-clause-committed : goal.returns-in-Ok-create-clause-committed
returns-in-Ok-create-clause-committed c =
    c.in-Ok-create.ensures.committed
    (c.in-Ok-create.ensures.honest (memory_is_clean c.in-Ok-create.book.conn) refl)
