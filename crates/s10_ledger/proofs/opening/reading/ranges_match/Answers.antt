use Rattle.std.specs.Ordering.{int_cmp}
use Rattle.std.proofs.lemmas.Cmp.{on_total, int_cmp_total}
use Rattle.s10_rows.specs.declared.range_row.RangeRow.{RangeRow}
use Rattle.s10_rows.specs.Tables.{range_rows}
use Rattle.s10_replay.proofs.Rising.{range_rows_apart}
use Rattle.s10_ledger.proofs.RowMatchLemmas.{verdict_on}
use Rattle.s10_ledger.proofs.opening.reading.ranges_match.Goals as goal

pub returns-clause-rows : goal.returns-clause-rows
returns-clause-rows g c clean has =
    let found = c.in_ok-read_ranges.ensures.rows clean has in
    record {
      ranges = found.0;
      are = found.1;
      verdict = verdict_on range_rows (λ a b. int_cmp a.num b.num) (on_total (λ (r : RangeRow). r.num) int_cmp_total)
          (λ h t legal calls. range_rows_apart h) c.args.made.now
          c.new-ranges.result c.read_ranges.new.sink found.0 c.is_complete.result
          c.new-ranges.ensures.made c.new-ranges.ensures.matched found.3 found.2
          c.is_complete.ensures;
    }
