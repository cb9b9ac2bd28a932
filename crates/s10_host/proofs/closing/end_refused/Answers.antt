use Rattle.std.proofs.Common.{refl}
use Rattle.s10_host.proofs.closing.end_refused.Goals as goal

pub returns-clause-printed : goal.returns-clause-printed
returns-clause-printed g c = c.fail_by_ledger.ensures

pub returns-clause-of : goal.returns-clause-of
returns-clause-of g c = c.close_refused-files.ensures.of

pub returns-clause-kept : goal.returns-clause-kept
returns-clause-kept g c = c.close_refused-files.ensures.kept

pub returns-clause-committed : goal.returns-clause-committed
returns-clause-committed g c = c.close_refused-files.ensures.committed

pub returns-clause-unlinked : goal.returns-clause-unlinked
returns-clause-unlinked g c = rw c.none.ensures refl
