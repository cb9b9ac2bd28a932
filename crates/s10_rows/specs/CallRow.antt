-- Defines a row of calls, as it is stored.
use Rattle.std.specs.Prelude.{ℕ, ℤ, List}

pub record StoredCall : Type 0 where
  pub arrival : ℤ
  pub customer : ℤ
  pub number : ℤ
  pub day : ℤ
  -- The bytes of the reply's datagram.
  pub reply : List ℕ
