use Rattle.std.proofs.Common.{◌≡◌}
use Rattle.sqlite_schema.specs.declared.code.Op.TheVariants as node
use Rattle.sqlite_value.specs.declared.value.Value.TheVariants.{Null}
use Rattle.s10_schema.proofs.SchemaLemmas.{not_there, there}
use Rattle.s10_schema.proofs.ledger_schema.is_key_at.Goals as goal

pub returns-in_default : goal.returns-in_default
returns-in_default c = not_there c.args.nodes.now c.args.place (node.Column 1 0)
    c.in_default.ensures (λ (e : node.Column 1 0 ≡ node.Literal Null). cc)

pub returns : goal.returns
returns c = there c.args.nodes.now c.args.place c.in-Some.op.now (node.Column 1 0) c.is_key.result
    c.in-Some.ensures c.is_key.ensures
