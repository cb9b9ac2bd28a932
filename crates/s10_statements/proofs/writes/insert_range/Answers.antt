use Rattle.std.proofs.Common.{rules, ◌≡◌}
use Rattle.sqlite_value.specs.declared.value.Value.TheVariants.{Int}
use Rattle.sqlite_value.specs.Value.{owned}
use Rattle.sqlite.specs.Held.{state}
use Rattle.s10_statements.proofs.InsertLemmas.{adds_range}
use Rattle.s10_statements.proofs.StepLemmas.{ran, not_ran}
use Rattle.s10_statements.proofs.writes.insert_range.Goals as goal

pub returns : goal.returns
returns g c =
    let num_is : owned c.params-to_sql.result ≡ Int c.args.range.now.num = search rules in
    let holder_is : owned c.params-to_sql-2.result ≡ Int c.args.range.now.holder = search rules in
    let pair_is : owned c.params-to_sql-3.result ≡ Int c.args.range.now.pair = search rules in
    let low_is : owned c.params-to_sql-4.result ≡ Int c.args.range.now.low = search rules in
    let high_is : owned c.params-to_sql-5.result ≡ Int c.args.range.now.high = search rules in
    let mark_is : owned c.params-to_sql-6.result ≡ Int c.args.range.now.mark = search rules in
    ran c.in_ok-execute.ensures.same_reference c.in_ok-execute.ensures.survives
    c.in_ok-execute.ensures.runs (λ opened did tables held. adds_range (state g.S.Store
    c.args.tx.now.conn.now)
    (state g.S.Store c.execute.new.self.conn.now) c.in_ok-execute.field-0 tables held
    c.args.range.now
    (rw (num_is, holder_is, pair_is, low_is, high_is, mark_is) at did))

pub returns-in_err-execute : goal.returns-in_err-execute
returns-in_err-execute g c = not_ran c.in_err-execute.ensures.same_reference
    c.in_err-execute.ensures.survives _ c.from_residual.result c.from_residual.ensures.1
    c.in_err-execute.ensures.runs
