-- A ledger in memory is honest at every point.
use Rattle.std.proofs.Common.{refl}
use Rattle.sqlite_trees.specs.declared.memory.MemStore.{MemStore}
use Rattle.sqlite.proofs.Callers.{memory_is_clean}
use Rattle.sqlite.specs.Held.{Held}
use Rattle.sqlite.specs.Steps.{over_memory}
use Rattle.s10_ledger.specs.Ledger.{Ledger, IsHonest}
use Rattle.s10_statements.specs.ConnectionState.{IsClean, IsOpen}

-- A ledger in memory is honest, by what its closed connection shows.
pub is_honest : (l : Ledger MemStore) (closed : Held MemStore)
    → (IsClean over_memory closed → IsOpen over_memory closed → IsHonest over_memory l)
    → IsHonest over_memory l
is_honest l closed honest = honest (memory_is_clean closed) refl
