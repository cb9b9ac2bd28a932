use Rattle.std.proofs.Common.{rules, ◌≡◌}
use Rattle.sqlite_value.specs.declared.value.Value.TheVariants.{Int}
use Rattle.sqlite_value.specs.Value.{owned}
use Rattle.sqlite.specs.Held.{state}
use Rattle.s10_statements.proofs.MarkLemmas.{marks}
use Rattle.s10_statements.proofs.StepLemmas.{ran, not_ran}
use Rattle.s10_statements.proofs.writes.update_mark.Goals as goal

pub returns-then-changed-eq1 : goal.returns-then-changed-eq1
returns-then-changed-eq1 g c =
    let num_is : owned c.params-to_sql.result ≡ Int c.args.num = search rules in
    let mark_is : owned c.params-to_sql-2.result ≡ Int c.args.mark = search rules in
    ran c.in_ok-changed.ensures.same_reference c.in_ok-changed.ensures.survives
    c.in_ok-changed.ensures.runs (λ opened did tables held. marks (state g.S.Store
    c.args.tx.now.conn.now)
    (state g.S.Store c.execute.new.self.conn.now) c.args.num c.args.mark tables held
    (rw (c.if-changed-eq1.true, num_is, mark_is) at did))

pub returns-in_err-changed : goal.returns-in_err-changed
returns-in_err-changed g c = not_ran c.in_err-changed.ensures.same_reference
    c.in_err-changed.ensures.survives _ c.from_residual.result c.from_residual.ensures.1
    c.in_err-changed.ensures.runs

pub returns-else-changed-eq1 : goal.returns-else-changed-eq1
returns-else-changed-eq1 g c = ran c.in_ok-changed.ensures.same_reference
    c.in_ok-changed.ensures.survives c.in_ok-changed.ensures.runs (λ opened did. tt)
