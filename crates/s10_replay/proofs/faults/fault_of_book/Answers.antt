use Rattle.std.proofs.Common.{rules}
use Rattle.s10_replay.proofs.faults.fault_of_book.Goals as goal

pub returns-in-Memory-clause-memory : goal.returns-in-Memory-clause-memory
returns-in-Memory-clause-memory c = search rules
