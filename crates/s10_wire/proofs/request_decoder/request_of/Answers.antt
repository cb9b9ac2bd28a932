use Rattle.std.proofs.Common.{◌≡◌, Bool, false, true, not, cond, eqb, length, Some, sym, ap, ◌∙◌}
use Rattle.std.proofs.Common.{arith}
use Rattle.std.proofs.lemmas.Bool.{ne_eqb, eq-eqb}
use Rattle.std.proofs.lemmas.Result.{err_from_is_err_and}
use Rattle.s10_wire.specs.declared.kind.Kind.{Kind}
use Rattle.s10_wire.specs.declared.wire_fault.WireFault.TheVariants.{Length}
use Rattle.s10_wire.specs.Kind.{request_length}
use Rattle.s10_wire.specs.WireFault.{first_refusal, kind_named, of_kind, header_refusals}
use Rattle.s10_wire.specs.WireFault.{request_fields, refusals_after_request}
use Rattle.s10_wire.proofs.Asked.{is_asked}
use Rattle.s10_wire.proofs.Refusals.{first_decides, length_decides}
use Rattle.s10_wire.proofs.request_decoder.request_of.Goals as goal

pub kind_at-requires : goal.kind_at-requires
kind_at-requires c = tt

pub request_length-requires : goal.request_length-requires
request_length-requires c = tt

pub request_at-requires : goal.request_at-requires
request_at-requires c = omega arith

pub returns-in_err-kind-clause-found : goal.returns-in_err-kind-clause-found
returns-in_err-kind-clause-found c =
    rw (err_from_is_err_and c.from_residual.result c.from_residual.ensures.1).1 tt

pub returns-in_err-kind-clause-refused : goal.returns-in_err-kind-clause-refused
returns-in_err-kind-clause-refused c =
    let b = c.args.bytes.now in
    let p = err_from_is_err_and c.from_residual.result c.from_residual.ensures.1 in
    rw (p.1, p.2)
    (sym (first_decides (header_refusals 0 b)
    (of_kind (kind_named 0 b) (refusals_after_request b)) c.in_err-kind.field-0.0
    (sym c.in_err-kind.ensures.refused)))

pub returns-then-bytes-request_length-clause-found :
    goal.returns-then-bytes-request_length-clause-found
returns-then-bytes-request_length-clause-found c = tt

pub returns-then-bytes-request_length-clause-refused :
    goal.returns-then-bytes-request_length-clause-refused
returns-then-bytes-request_length-clause-refused c =
    let b = c.args.bytes.now in
    let kind : Kind = c.in_ok-kind.kind in
    let other : eqb (length b) (request_length kind) ≡ false =
    ne_eqb (length b) (request_length kind) (λ same. c.if-bytes-request_length.true
    (same ∙ sym c.request_length.ensures)) in
    ap (λ (t : Bool). cond (not t) (Some Length) (first_refusal (request_fields kind b)))
    (sym other) ∙ sym (length_decides b kind c.in_ok-kind.ensures.refused
    c.in_ok-kind.ensures.named)

pub returns-clause-found : goal.returns-clause-found
returns-clause-found c =
    is_asked c.args.bytes.now c.in_ok-kind.kind c.request_at.result c.in_ok-kind.ensures.read
    (omega arith)
    c.request_at.ensures.kind c.request_at.ensures.in_range c.request_at.ensures.read

pub returns-clause-refused : goal.returns-clause-refused
returns-clause-refused c =
    let b = c.args.bytes.now in
    let kind : Kind = c.in_ok-kind.kind in
    let same : eqb (length b) (request_length kind) ≡ true = eq-eqb (length b) (request_length kind)
    (c.if-bytes-request_length.false ∙ c.request_length.ensures) in
    c.request_at.ensures.refused
    ∙ ap (λ (t : Bool). cond (not t) (Some Length) (first_refusal (request_fields kind b)))
    (sym same)
    ∙ sym (length_decides b kind c.in_ok-kind.ensures.refused c.in_ok-kind.ensures.named)
