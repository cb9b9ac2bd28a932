use Rattle.std.proofs.Common.{[]}
use Rattle.std.proofs.lemmas.Result.{on_ok_weaker}
use Rattle.sqlite.specs.Held.{state}
use Rattle.s10_statements.specs.Shown.{shown_call}
use Rattle.s10_statements.specs.Statements.{select_calls_sql}
use Rattle.s10_statements.proofs.Texts.{calls_read}
use Rattle.s10_statements.proofs.StateLemmas.{leaves_weaker}
use Rattle.s10_statements.proofs.FoundLemmas.{calls_found}
use Rattle.s10_statements.proofs.ArrivalLemmas.{calls_sorted}
use Rattle.s10_statements.proofs.RowByRow.{known_plain, all_shown}
use Rattle.s10_statements.proofs.reads.read_calls.Goals as goal

pub returns-clause-leaves : goal.returns-clause-leaves
returns-clause-leaves g c = leaves_weaker g.S.Store c.args.conn.now c.stream_rows.new.conn
    (known_plain select_calls_sql (λ o. (calls_read o).plain)) c.stream_rows.ensures.leaves

pub returns-clause-spares : goal.returns-clause-spares
returns-clause-spares g c clean has =
    c.stream_rows.ensures.spares clean (known_plain select_calls_sql (λ o. (calls_read o).plain)
    (state g.S.Store c.args.conn.now).now.schema has)

pub returns-clause-rows : goal.returns-clause-rows
returns-clause-rows g c clean =
    on_ok_weaker c.stream_rows.result (λ typed has.
    let old = state g.S.Store c.args.conn.now in
    let new = state g.S.Store c.stream_rows.new.conn in
    let it = typed (known_plain select_calls_sql (λ o. (calls_read o).plain) old.now.schema has) in
    let shown = all_shown shown_call it.2 it.0 it.3 in (
      it.2,
      calls_found [] old new it.0 has it.2 it.1 shown,
      calls_sorted [] old new it.0 has it.2 it.1 shown,
      it.4,
    )) (c.stream_rows.ensures.rows clean)
