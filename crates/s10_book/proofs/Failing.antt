-- The result of a call in which an inner call was refused.
use Rattle.std.proofs.Common.{Result, Ok, Err}
use Rattle.std.specs.Prelude.{IsErrAnd, IfOk}

-- A fault promises nothing of a returned value.
pub untold : {T E : Type 0} (Q : E → Type 0) (P : T → Type 0) (r : Result T E) → IsErrAnd r Q
    → IfOk r P
untold Q P (Ok x) h = absurd h
untold Q P (Err y) h = tt
