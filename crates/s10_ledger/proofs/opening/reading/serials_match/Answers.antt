use Rattle.s10_rows.specs.Tables.{serial_rows, serial_row_cmp}
use Rattle.s10_replay.proofs.Compared.{serial_row_total, serial_rows_apart}
use Rattle.s10_ledger.proofs.RowMatchLemmas.{verdict_on}
use Rattle.s10_ledger.proofs.opening.reading.serials_match.Goals as goal

pub returns-clause-rows : goal.returns-clause-rows
returns-clause-rows g c clean has =
    let found = c.in_ok-read_serials.ensures.rows clean has in
    record {
      serials = found.0;
      are = found.1;
      numbered = c.in_ok-read_serials.ensures.numbered clean has;
      verdict = verdict_on serial_rows serial_row_cmp serial_row_total
          (λ h t legal calls. serial_rows_apart h calls) c.args.made.now
          c.new-serials.result c.read_serials.new.sink found.0 c.is_complete.result
          c.new-serials.ensures.made c.new-serials.ensures.matched found.3 found.2
          c.is_complete.ensures;
    }
