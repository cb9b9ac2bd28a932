use Rattle.std.proofs.Common.{[]}
use Rattle.std.proofs.lemmas.Result.{on_ok_weaker}
use Rattle.sqlite.specs.Held.{state}
use Rattle.s10_statements.specs.Statements.{select_serials_sql}
use Rattle.s10_statements.proofs.Texts.{serials_read}
use Rattle.s10_statements.proofs.StateLemmas.{leaves_weaker}
use Rattle.s10_statements.proofs.FoundLemmas.{serials_found, serials_numbered}
use Rattle.s10_statements.proofs.ArrivalLemmas.{serials_sorted}
use Rattle.s10_statements.proofs.RowByRow.{known_plain, serials_shown}
use Rattle.s10_statements.proofs.reads.read_serials.Goals as goal

pub returns-clause-leaves : goal.returns-clause-leaves
returns-clause-leaves g c = leaves_weaker g.S.Store c.args.conn.now c.stream_rows.new.conn
    (known_plain select_serials_sql (λ o. (serials_read o).plain)) c.stream_rows.ensures.leaves

pub returns-clause-spares : goal.returns-clause-spares
returns-clause-spares g c clean has =
    c.stream_rows.ensures.spares clean (known_plain select_serials_sql
    (λ o. (serials_read o).plain) (state g.S.Store c.args.conn.now).now.schema has)

pub returns-clause-rows : goal.returns-clause-rows
returns-clause-rows g c clean =
    on_ok_weaker c.stream_rows.result (λ typed has.
    let old = state g.S.Store c.args.conn.now in
    let new = state g.S.Store c.stream_rows.new.conn in
    let it = typed (known_plain select_serials_sql (λ o. (serials_read o).plain) old.now.schema
    has) in (
      it.2,
      serials_found [] old new it.0 has it.2 it.1 (serials_shown it.2 it.0 it.3).0,
      serials_sorted [] old new it.0 has it.2 it.1 it.3,
      it.4,
    )) (c.stream_rows.ensures.rows clean)

pub returns-clause-numbered : goal.returns-clause-numbered
returns-clause-numbered g c clean =
    on_ok_weaker c.stream_rows.result (λ typed has.
    let old = state g.S.Store c.args.conn.now in
    let it = typed (known_plain select_serials_sql (λ o. (serials_read o).plain) old.now.schema
    has) in
    serials_numbered [] old (state g.S.Store c.stream_rows.new.conn)
    it.0 has it.1 (serials_shown it.2 it.0 it.3).1)
    (c.stream_rows.ensures.rows clean)
