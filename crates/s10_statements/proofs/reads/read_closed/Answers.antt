use Rattle.std.proofs.Common.{[], refl}
use Rattle.std.proofs.lemmas.Result.{on_ok_weaker}
use Rattle.sqlite.specs.Held.{state}
use Rattle.s10_statements.specs.Shown.{shown_closed}
use Rattle.s10_statements.proofs.FoundLemmas.{closed_found}
use Rattle.s10_statements.proofs.ArrivalLemmas.{closed_sorted}
use Rattle.s10_statements.proofs.ClosedReads.{closed_leaves, closed_spares, closed_plain}
use Rattle.s10_statements.proofs.ClosedReads.{closed_shown}
use Rattle.s10_statements.proofs.RowByRow.{all_shown}
use Rattle.s10_statements.proofs.reads.read_closed.Goals as goal

pub returns-clause-leaves : goal.returns-clause-leaves
returns-clause-leaves g c = closed_leaves g.S.Store c.args.conn.now c.stream_rows.new.conn _
    c.stream_rows.ensures.leaves refl

pub returns-clause-spares : goal.returns-clause-spares
returns-clause-spares g c = closed_spares g.S.Store c.args.conn.now c.stream_rows.new.conn _
    c.stream_rows.ensures.spares refl

pub returns-clause-rows : goal.returns-clause-rows
returns-clause-rows g c clean =
    on_ok_weaker c.stream_rows.result (λ typed has.
    let old = state g.S.Store c.args.conn.now in
    let new = state g.S.Store c.stream_rows.new.conn in
    let it = typed (closed_plain _ refl old.now.schema has) in
    let answer = closed_shown [] old new it.0 _ it.1 refl in
    let shown = all_shown shown_closed it.2 it.0 it.3 in (
      it.2,
      closed_found [] old new it.0 has it.2 answer shown,
      closed_sorted [] old new it.0 has it.2 answer shown,
      it.4,
    )) (c.stream_rows.ensures.rows clean)
