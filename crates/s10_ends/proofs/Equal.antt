-- Two requests are equal or not.
use Rattle.std.proofs.Common.{◌≡◌, ◌≢◌, ◌⊎◌, inl, inr, arith}
use Rattle.std.specs.Bool.{Decides}
use Rattle.std.proofs.lemmas.Bool.{both_ways, cases_Bool}
use Rattle.std.proofs.lemmas.Grind.{common_steps}
use Rattle.s10_wire.specs.declared.request.Request.{Request}
use Rattle.s10_wire.specs.contracts.request.RequestPartialEq.TheImpl as request_equality

request_decides : (p q : Request) → Decides (request_equality.ghosts.eq p q) (p ≡ q)
request_decides p q = grind (arith, common_steps)

pub same_request_or_not : (p q : Request) → (p ≡ q) ⊎ (p ≢ q)
same_request_or_not p q =
    let tells = request_decides p q in
    elim (cases_Bool (request_equality.ghosts.eq p q)) [
      | inl same ↦ inl (tells.0 same)
      | inr other ↦ inr (λ e. both_ways _ other (tells.1 e))
    ]
