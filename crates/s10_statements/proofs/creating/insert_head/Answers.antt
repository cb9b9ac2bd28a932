use Rattle.std.proofs.Common.{◌≡◌, ◌∙◌, ℕ, pos, ap}
use Rattle.sqlite_value.specs.declared.value.Value.TheVariants.{Int}
use Rattle.sqlite_value.specs.Value.{owned}
use Rattle.sqlite.specs.Held.{state}
use Rattle.s10_statements.proofs.InsertLemmas.{begins, as_declared}
use Rattle.s10_statements.proofs.StepLemmas.{ran, not_ran}
use Rattle.s10_statements.proofs.creating.insert_head.Goals as goal

pub returns : goal.returns
returns g c =
    let old = state g.S.Store c.args.tx.now.conn.now in
    let new = state g.S.Store c.execute.new.self.conn.now in
    let interval_is : owned c.params-to_sql.result ≡ Int (pos c.args.settings.interval) =
    c.params-to_sql.ensures ∙ ap (λ (n : ℕ). Int (pos n)) c.interval-interval.ensures.value in
    let limit_is : owned c.params-to_sql-2.result ≡ Int (pos c.args.settings.limit) =
    c.params-to_sql-2.ensures ∙ ap (λ (n : ℕ). Int (pos n)) c.limit-limit.ensures.value in
    ran c.in_ok-execute.ensures.same_reference c.in_ok-execute.ensures.survives
    c.in_ok-execute.ensures.runs (λ opened did. let h = rw (interval_is, limit_is) at did in (
      λ tables held. begins old new c.in_ok-execute.field-0 tables held c.args.settings h,
      λ tables held. as_declared old new c.in_ok-execute.field-0 tables held c.args.settings h,
    ))

pub returns-in_err-execute : goal.returns-in_err-execute
returns-in_err-execute g c = not_ran c.in_err-execute.ensures.same_reference
    c.in_err-execute.ensures.survives _ c.from_residual.result c.from_residual.ensures.1
    c.in_err-execute.ensures.runs
