use Rattle.std.proofs.Common.{◌≡◌, List, []}
use Rattle.std.specs.List.{AllZip}
use Rattle.sqlite_value.specs.Order.{Row}
use Rattle.s10_statements.proofs.RowByRow.{IsUnderWay}
use Rattle.s10_statements.proofs.streams.stream_rows.Given as goal

-- The sink has taken the rows so far.
abbrev pub invariant-rows : goal.invariant-rows
invariant-rows g l = record {
  same_reference : l.shown.conn.ghost_name ≡ l.initial.shown.conn.ghost_name;
  so_far : IsUnderWay g.S.Store l.sql [] (λ (rows : List Row). (typed : List _)
      × AllZip g.T.StreamedRow.is_shown_as typed rows
      × g.K.RowSink.has_taken l.fn.sink typed l.sink) l.fn.conn l.shown.conn.now;
}
