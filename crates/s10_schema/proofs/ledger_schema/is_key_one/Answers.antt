use Rattle.std.proofs.Common.{rules}
use Rattle.s10_schema.proofs.SchemaLemmas.{no_root, no_equality, by_one, by_key}
use Rattle.s10_schema.proofs.ledger_schema.is_key_one.Goals as goal

pub returns-in_default : goal.returns-in_default
returns-in_default c = no_root c.args.nodes.now c.args.root c.in_default.ensures

pub returns-in_default-compared : goal.returns-in_default-compared
returns-in_default-compared c = no_equality c.args.nodes.now c.args.root c.in-Some.op.now
    c.in-Some.ensures c.in_default-compared.ensures.none

pub returns-then-is_key_at : goal.returns-then-is_key_at
returns-then-is_key_at c =
    by_one c.args.nodes.now c.args.root c.in-Some.op.now c.in-Some-compared.key
    c.in-Some-compared.one c.in-Some.ensures c.in-Some-compared.ensures.some c.is_one_at.result
    (c.is_key_at.ensures.0 (search rules)) c.is_one_at.ensures

pub returns-else-is_key_at : goal.returns-else-is_key_at
returns-else-is_key_at c =
    by_key c.args.nodes.now c.args.root c.in-Some.op.now c.in-Some-compared.key
    c.in-Some-compared.one c.in-Some.ensures c.in-Some-compared.ensures.some c.is_key_at.result
    (search rules) c.is_key_at.ensures.1
