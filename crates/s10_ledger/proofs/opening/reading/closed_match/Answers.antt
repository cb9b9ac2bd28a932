use Rattle.std.specs.Ordering.{int_cmp}
use Rattle.std.proofs.lemmas.Cmp.{on_total, int_cmp_total}
use Rattle.s10_rows.specs.declared.closed_row.ClosedRow.{ClosedRow}
use Rattle.s10_rows.specs.Tables.{closed_rows}
use Rattle.s10_replay.proofs.ClosedRows.{closed_rows_apart}
use Rattle.s10_ledger.proofs.RowMatchLemmas.{verdict_on}
use Rattle.s10_ledger.proofs.opening.reading.closed_match.Goals as goal

pub returns-clause-rows : goal.returns-clause-rows
returns-clause-rows g c clean has =
    let found = c.in_ok-read_closed_if_there.ensures.rows clean has in
    record {
      closed = found.0;
      are = found.1;
      verdict = verdict_on closed_rows (λ a b. int_cmp a.num b.num)
          (on_total (λ (r : ClosedRow). r.num) int_cmp_total)
          (λ h t legal calls. closed_rows_apart h t legal) c.args.made.now
          c.new-closed.result c.read_closed_if_there.new.sink found.0 c.is_complete.result
          c.new-closed.ensures.made c.new-closed.ensures.matched found.3 found.2
          c.is_complete.ensures;
    }
