use Rattle.std.proofs.Common.{pos}
use Rattle.sqlite.specs.Held.{state}
use Rattle.s10_rows.specs.CallRow.{StoredCall}
use Rattle.s10_statements.proofs.InsertLemmas.{keeps}
use Rattle.s10_statements.proofs.StepLemmas.{ran, not_ran}
use Rattle.s10_statements.proofs.writes.insert_call.Goals as goal

pub returns : goal.returns
returns g c =
    let row : StoredCall = record {
      arrival = pos c.args.arrival;
      customer = pos c.args.entry.now.request.customer;
      number = pos c.args.entry.now.request.number;
      day = pos c.args.entry.now.day;
      reply = c.args.reply.now;
    } in
    ran c.in_ok-execute.ensures.same_reference c.in_ok-execute.ensures.survives
    c.in_ok-execute.ensures.runs (λ opened did. (
      opened,
      λ tables held. keeps (state g.S.Store c.args.tx.now.conn.now) (state g.S.Store
          c.execute.new.self.conn.now) c.in_ok-execute.field-0 tables held row
          (rw (
            c.params-to_sql.ensures,
            c.params-to_sql-2.ensures,
            c.params-to_sql-3.ensures,
            c.params-to_sql-4.ensures,
            c.params-to_sql-5.ensures,
          ) at did),
    ))

pub returns-in_err-execute : goal.returns-in_err-execute
returns-in_err-execute g c = not_ran c.in_err-execute.ensures.same_reference
    c.in_err-execute.ensures.survives _ c.from_residual.result c.from_residual.ensures.1
    c.in_err-execute.ensures.runs
