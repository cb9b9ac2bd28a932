use Rattle.std.proofs.Common.{◌≡◌, ◌∙◌, ◌≤◌, false, ap, sym, arith}
use Rattle.std.specs.Prelude.{not}
use Rattle.s10_core.specs.declared.id.Id.{Id}
use Rattle.s10_history.specs.Issues.{is_issued, id_at}
use Rattle.s10_history.proofs.Walking.{serials-step}
use Rattle.s10_history.proofs.serials.least_unissued.Goals as goal

pub loop-value-preserved : goal.loop-value-preserved
loop-value-preserved c =
    let le : c.loop-value.value ≤ c.args.range.now.last = omega (
      arith,
      c.loop-value-test.true,
      c.value-value-end.ensures.value,
    ) in
    let fails : not (is_issued c.args.issues.now (id_at c.args.range.now c.loop-value.value))
    ≡ false =
    ap not (ap (λ (x : Id). is_issued c.args.issues.now x) (sym c.id_in_range-id.ensures)
    ∙ sym c.was_issued.ensures ∙ c.if-not-was_issued.false) in
    serials-step (λ s. not (is_issued c.args.issues.now (id_at c.args.range.now s)))
    c.loop-value.value c.args.range.now.last le fails ∙ c.loop-value.invariant
