use Rattle.std.proofs.Common.{ℕ, ap, ◌∙◌}
use Rattle.s10_wire.specs.Kind.{kind_of, request_length}
use Rattle.s10_wire.specs.WireFault.{byte}
use Rattle.s10_wire.proofs.Refusals.{not_done}
use Rattle.s10_wire.proofs.reply_decoder.outcome_at.Goals as goal

pub returns-else-code-eq0-clause-refused : goal.returns-else-code-eq0-clause-refused
returns-else-code-eq0-clause-refused c =
    c.refusal_of.ensures.refused
    ∙ not_done c.args.bytes.now (kind_of c.args.body.now) _ c.if-code-eq0.false
    (ap (λ (n : ℕ). byte c.args.bytes.now n) (c.request_length.ensures
    ∙ ap request_length c.of.ensures))
