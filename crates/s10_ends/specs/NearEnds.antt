-- A near link in clauses.
use Rattle.std.specs.Prelude.{ℕ}
use Rattle.s10_ends.specs.declared.server.Server.{Server}

-- The server, both ends of the network, and the day.
pub record NearEnds (B F N : Type 0) : Type 0 where
  pub server : Server B
  pub far : F
  pub near : N
  pub day : ℕ
