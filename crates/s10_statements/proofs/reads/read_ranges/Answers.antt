use Rattle.std.proofs.Common.{[]}
use Rattle.std.proofs.lemmas.Result.{on_ok_weaker}
use Rattle.sqlite.specs.Held.{state}
use Rattle.s10_statements.specs.Shown.{shown_range}
use Rattle.s10_statements.specs.Statements.{select_ranges_sql}
use Rattle.s10_statements.proofs.Texts.{ranges_read}
use Rattle.s10_statements.proofs.StateLemmas.{leaves_weaker}
use Rattle.s10_statements.proofs.FoundLemmas.{ranges_found}
use Rattle.s10_statements.proofs.ArrivalLemmas.{ranges_sorted}
use Rattle.s10_statements.proofs.RowByRow.{known_plain, all_shown}
use Rattle.s10_statements.proofs.reads.read_ranges.Goals as goal

pub returns-clause-leaves : goal.returns-clause-leaves
returns-clause-leaves g c = leaves_weaker g.S.Store c.args.conn.now c.stream_rows.new.conn
    (known_plain select_ranges_sql (λ o. (ranges_read o).plain)) c.stream_rows.ensures.leaves

pub returns-clause-spares : goal.returns-clause-spares
returns-clause-spares g c clean has =
    c.stream_rows.ensures.spares clean (known_plain select_ranges_sql (λ o. (ranges_read o).plain)
    (state g.S.Store c.args.conn.now).now.schema has)

pub returns-clause-rows : goal.returns-clause-rows
returns-clause-rows g c clean =
    on_ok_weaker c.stream_rows.result (λ typed has.
    let old = state g.S.Store c.args.conn.now in
    let new = state g.S.Store c.stream_rows.new.conn in
    let it = typed (known_plain select_ranges_sql (λ o. (ranges_read o).plain) old.now.schema has) in
    let shown = all_shown shown_range it.2 it.0 it.3 in (
      it.2,
      ranges_found [] old new it.0 has it.2 it.1 shown,
      ranges_sorted [] old new it.0 has it.2 it.1 shown,
      it.4,
    )) (c.stream_rows.ensures.rows clean)
