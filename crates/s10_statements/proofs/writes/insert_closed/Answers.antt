use Rattle.std.proofs.Common.{rules, ◌≡◌}
use Rattle.sqlite_value.specs.declared.value.Value.TheVariants.{Int}
use Rattle.sqlite_value.specs.Value.{owned}
use Rattle.sqlite.specs.Held.{state}
use Rattle.s10_statements.proofs.InsertLemmas.{closes}
use Rattle.s10_statements.proofs.StepLemmas.{ran, not_ran}
use Rattle.s10_statements.proofs.writes.insert_closed.Goals as goal

pub returns : goal.returns
returns g c =
    let num_is : owned c.params-to_sql.result ≡ Int c.args.closed.now.num = search rules in
    let arrival_is : owned c.params-to_sql-2.result ≡ Int c.args.closed.now.arrival = search rules
    in
    ran c.in_ok-execute.ensures.same_reference c.in_ok-execute.ensures.survives
    c.in_ok-execute.ensures.runs (λ opened did tables held. closes (state g.S.Store
    c.args.tx.now.conn.now)
    (state g.S.Store c.execute.new.self.conn.now) c.in_ok-execute.field-0 tables held
    c.args.closed.now
    (rw (num_is, arrival_is) at did))

pub returns-in_err-execute : goal.returns-in_err-execute
returns-in_err-execute g c = not_ran c.in_err-execute.ensures.same_reference
    c.in_err-execute.ensures.survives _ c.from_residual.result c.from_residual.ensures.1
    c.in_err-execute.ensures.runs
