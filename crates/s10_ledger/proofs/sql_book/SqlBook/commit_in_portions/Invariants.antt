use Rattle.std.proofs.Common.{◌≡◌, ◌≤◌, ◌+◌, length}
use Rattle.s10_ledger.specs.Ledger.{IsHonest, IsOverCleanDisk, CommitsSomeOf}
use Rattle.s10_ledger.proofs.sql_book.SqlBook.commit_in_portions.Given as goal

-- Some portions were committed, and the connection answered since the last failure.
abbrev pub invariant-loop-self : goal.invariant-loop-self
invariant-loop-self g l = record {
  faults : l.self.faults ≡ l.fn.self.faults;
  commits_some : CommitsSomeOf g.S.Store l.fn.self l.self;
  opened : IsOverCleanDisk g.S.Store l.self → IsHonest g.S.Store l.self;
  some : 1 ≤ l.most;
}

abbrev pub decreases-loop-self : goal.decreases-loop-self
decreases-loop-self g l = length l.self.pending + l.most
