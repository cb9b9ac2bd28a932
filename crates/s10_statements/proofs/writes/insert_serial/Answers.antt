use Rattle.std.proofs.Common.{rules, ◌≡◌}
use Rattle.sqlite_value.specs.declared.value.Value.TheVariants.{Int}
use Rattle.sqlite_value.specs.Value.{owned}
use Rattle.sqlite.specs.Held.{state}
use Rattle.s10_statements.proofs.InsertLemmas.{adds_serial}
use Rattle.s10_statements.proofs.StepLemmas.{ran, not_ran}
use Rattle.s10_statements.proofs.writes.insert_serial.Goals as goal

pub returns : goal.returns
returns g c =
    let pair_is : owned c.params-to_sql.result ≡ Int c.args.serial.now.pair = search rules in
    let serial_is : owned c.params-to_sql-2.result ≡ Int c.args.serial.now.serial = search rules in
    let arrival_is : owned c.params-to_sql-3.result ≡ Int c.args.serial.now.arrival = search rules
    in
    let day_is : owned c.params-to_sql-4.result ≡ Int c.args.serial.now.day = search rules in
    let customer_is : owned c.params-to_sql-5.result ≡ Int c.args.serial.now.customer = search
    rules in
    let number_is : owned c.params-to_sql-6.result ≡ Int c.args.serial.now.number = search rules in
    let voided_is : owned c.params-to_sql-7.result ≡ Int c.args.serial.now.voided = search rules in
    ran c.in_ok-execute.ensures.same_reference c.in_ok-execute.ensures.survives
    c.in_ok-execute.ensures.runs (λ opened did tables held. adds_serial (state g.S.Store
    c.args.tx.now.conn.now)
    (state g.S.Store c.execute.new.self.conn.now) c.in_ok-execute.field-0 tables held
    c.args.serial.now
    (rw (pair_is, serial_is, arrival_is, day_is, customer_is, number_is, voided_is) at did))

pub returns-in_err-execute : goal.returns-in_err-execute
returns-in_err-execute g c = not_ran c.in_err-execute.ensures.same_reference
    c.in_err-execute.ensures.survives _ c.from_residual.result c.from_residual.ensures.1
    c.in_err-execute.ensures.runs
