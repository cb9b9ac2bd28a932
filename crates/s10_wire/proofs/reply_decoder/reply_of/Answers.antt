use Rattle.std.proofs.Common.{◌≡◌, ◌<◌, Bool, true, false, not, cond, length, ◌++◌, Some, sym, ap}
use Rattle.std.proofs.Common.{◌∙◌, arith}
use Rattle.std.proofs.lemmas.Bool.{and_parts, ltb-true}
use Rattle.std.proofs.lemmas.Result.{err_from_is_err_and}
use Rattle.s10_wire.specs.declared.kind.Kind.{Kind}
use Rattle.s10_wire.specs.declared.wire_fault.WireFault.TheVariants.{Length}
use Rattle.s10_wire.specs.Kind.{request_length, is_reply_long}
use Rattle.s10_wire.specs.WireFault.{first_refusal, kind_named, of_kind, header_refusals}
use Rattle.s10_wire.specs.WireFault.{request_fields, outcome_refusals, reply_refusals}
use Rattle.s10_wire.specs.WireFault.{refusals_after_reply}
use Rattle.s10_wire.proofs.Refusals.{first_decides, second_decides, reply_length_decides}
use Rattle.s10_wire.proofs.Refusals.{fields_decide}
use Rattle.s10_wire.proofs.reply_decoder.reply_of.Goals as goal

pub kind_at-requires : goal.kind_at-requires
kind_at-requires c = tt

pub is_reply_long-requires : goal.is_reply_long-requires
is_reply_long-requires c = tt

pub request_at-requires : goal.request_at-requires
request_at-requires c =
    let b = c.args.bytes.now in
    let kind : Kind = c.in_ok-kind.kind in
    let long : is_reply_long kind b ≡ true = sym c.is_reply_long.ensures
    ∙ c.if-not-is_reply_long.false in
    let within : request_length kind < length b = ltb-true _ _ (and_parts _ _ long).0 in
    omega (arith, within)

pub outcome_at-requires-clause-long : goal.outcome_at-requires-clause-long
outcome_at-requires-clause-long c = rw c.in_ok-request.ensures.kind (sym c.is_reply_long.ensures
    ∙ c.if-not-is_reply_long.false)

pub outcome_at-requires-clause-begins : goal.outcome_at-requires-clause-begins
outcome_at-requires-clause-begins c = rw c.in_ok-request.ensures.kind c.in_ok-request.ensures.begins

pub of-requires : goal.of-requires
of-requires c = c.in_ok-outcome.ensures.fits

pub returns-in_err-kind-clause-refused : goal.returns-in_err-kind-clause-refused
returns-in_err-kind-clause-refused c =
    let b = c.args.bytes.now in
    let p = err_from_is_err_and c.from_residual.result c.from_residual.ensures.1 in
    rw (p.1, p.2)
    (sym (first_decides (header_refusals 0x80 b)
    (of_kind (kind_named 0x80 b) (refusals_after_reply b)) c.in_err-kind.field-0.0
    (sym c.in_err-kind.ensures.refused)))

pub returns-then-not-is_reply_long-clause-found : goal.returns-then-not-is_reply_long-clause-found
returns-then-not-is_reply_long-clause-found c = tt

pub returns-then-not-is_reply_long-clause-refused :
    goal.returns-then-not-is_reply_long-clause-refused
returns-then-not-is_reply_long-clause-refused c =
    let b = c.args.bytes.now in
    let kind : Kind = c.in_ok-kind.kind in
    let short : is_reply_long kind b ≡ false = sym c.is_reply_long.ensures
    ∙ c.if-not-is_reply_long.true in
    ap (λ (t : Bool). cond (not t) (Some Length)
    (first_refusal (request_fields kind b ++ outcome_refusals kind b))) (sym short)
    ∙ sym (reply_length_decides b kind c.in_ok-kind.ensures.refused c.in_ok-kind.ensures.named)

pub returns-in_err-kind-clause-found : goal.returns-in_err-kind-clause-found
returns-in_err-kind-clause-found c =
    rw (err_from_is_err_and c.from_residual.result c.from_residual.ensures.1).1 tt

pub returns-in_err-request-clause-found : goal.returns-in_err-request-clause-found
returns-in_err-request-clause-found c =
    rw (err_from_is_err_and c.from_residual-in_err-request.result
    c.from_residual-in_err-request.ensures.1).1 tt

pub returns-in_err-outcome-clause-found : goal.returns-in_err-outcome-clause-found
returns-in_err-outcome-clause-found c =
    rw (err_from_is_err_and c.from_residual-in_err-outcome.result
    c.from_residual-in_err-outcome.ensures.1).1 tt

pub returns-in_err-request-clause-refused : goal.returns-in_err-request-clause-refused
returns-in_err-request-clause-refused c =
    let b = c.args.bytes.now in
    let kind : Kind = c.in_ok-kind.kind in
    let long : is_reply_long kind b ≡ true = sym c.is_reply_long.ensures
    ∙ c.if-not-is_reply_long.false in
    let refused : Some c.in_err-request.field-0.0 ≡ first_refusal (reply_refusals b) =
    sym (fields_decide b kind c.in_ok-kind.ensures.refused c.in_ok-kind.ensures.named long
    ∙ first_decides (request_fields kind b) (outcome_refusals kind b) c.in_err-request.field-0.0
    (sym c.in_err-request.ensures.refused)) in
    let p = err_from_is_err_and c.from_residual-in_err-request.result
    c.from_residual-in_err-request.ensures.1 in
    rw (p.1, p.2) refused

pub returns-in_err-outcome-clause-refused : goal.returns-in_err-outcome-clause-refused
returns-in_err-outcome-clause-refused c =
    let b = c.args.bytes.now in
    let kind : Kind = c.in_ok-kind.kind in
    let long : is_reply_long kind b ≡ true = sym c.is_reply_long.ensures
    ∙ c.if-not-is_reply_long.false in
    let refused : Some c.in_err-outcome.field-0.0 ≡ first_refusal (reply_refusals b) =
    sym (fields_decide b kind c.in_ok-kind.ensures.refused c.in_ok-kind.ensures.named long
    ∙ second_decides (request_fields kind b) (outcome_refusals kind b)
    (sym c.in_ok-request.ensures.refused)
    ∙ ap (λ (k : Kind). first_refusal (outcome_refusals k b)) (sym c.in_ok-request.ensures.kind)
    ∙ sym c.in_err-outcome.ensures.refused) in
    let p = err_from_is_err_and c.from_residual-in_err-outcome.result
    c.from_residual-in_err-outcome.ensures.1 in
    rw (p.1, p.2) refused

pub returns-clause-refused : goal.returns-clause-refused
returns-clause-refused c =
    let b = c.args.bytes.now in
    let kind : Kind = c.in_ok-kind.kind in
    let long : is_reply_long kind b ≡ true = sym c.is_reply_long.ensures
    ∙ c.if-not-is_reply_long.false in
    sym (fields_decide b kind c.in_ok-kind.ensures.refused c.in_ok-kind.ensures.named long
    ∙ second_decides (request_fields kind b) (outcome_refusals kind b)
    (sym c.in_ok-request.ensures.refused)
    ∙ ap (λ (k : Kind). first_refusal (outcome_refusals k b)) (sym c.in_ok-request.ensures.kind)
    ∙ sym c.in_ok-outcome.ensures.refused)
