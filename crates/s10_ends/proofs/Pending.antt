-- A client that has used no number has no pending request.
use Rattle.std.proofs.Common.{◌≡◌, Option, Some, None, refl, arith}
use Rattle.std.specs.Prelude.{IfSome}
use Rattle.s10_wire.specs.declared.request.Request.{Request}
use Rattle.s10_ends.specs.Client.{ClientState, IsLatest, IsClient}

none_at : (p : Option Request) (c : ClientState) → IfSome p (IsLatest c) → c.taken ≡ 0 → p ≡ None
none_at None c latest none = refl
none_at (Some q) c latest none = absurd (omega arith)

pub none_pending : (c : ClientState) → IsClient c → c.taken ≡ 0 → c.pending ≡ None
none_pending c is none = none_at c.pending c is.latest none
