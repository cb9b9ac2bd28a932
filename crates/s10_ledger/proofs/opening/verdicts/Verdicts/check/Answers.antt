use Rattle.std.proofs.Common.{All, List, subst, sym}
use Rattle.std.proofs.lemmas.Bool.{both_ways}
use Rattle.s10_history.specs.declared.entry.Entry.{Entry}
use Rattle.s10_rows.specs.Selected.{IsCall}
use Rattle.s10_rows.specs.Tables.{range_rows, serial_rows, closed_rows}
use Rattle.s10_replay.specs.RightRows.{kept_of}
use Rattle.s10_replay.proofs.Compared.{right_calls}
use Rattle.s10_ledger.proofs.ReplayedBookLemmas.{restored}
use Rattle.s10_ledger.proofs.opening.verdicts.Verdicts.check.Goals as goal
use Rattle.s10_ledger.proofs.opening.verdicts.Verdicts.check.Goals.{else-self-via-then-self+then-self-2+else-self-3}
use Rattle.s10_ledger.proofs.opening.verdicts.Verdicts.check.Goals.{else-self-via-then-self+else-self-2}
use Rattle.s10_ledger.proofs.opening.verdicts.Verdicts.check.Goals.{else-self-via-else-self}

pub returns-then-self-3-clause-ok : goal.returns-then-self-3-clause-ok
returns-then-self-3-clause-ok c book tables t theirs right kept =
    let h = book.index.entries.items in
    let calls = subst (λ (l : List Entry). All IsCall l) (sym kept)
    (right_calls t tables.calls right) in
    let ranges = restored range_rows tables.ranges c.args.self.has_ranges h
    (kept_of tables.calls) kept (theirs.ranges calls) in
    let serials = restored serial_rows tables.serials c.args.self.has_serials h
    (kept_of tables.calls) kept (theirs.serials calls) in
    let closed = restored closed_rows tables.closed c.args.self.has_closed h
    (kept_of tables.calls) kept (theirs.closed calls) in
    record {
      ranges = ranges.0 c.if-self.true;
      serials = serials.0 c.if-self-2.true;
      closed = closed.0 c.if-self-3.true;
    }

pub returns-else-self-clause-err : goal.returns-else-self-clause-err
returns-else-self-clause-err c book tables t theirs head right kept = (
  t,
  head,
  right,
  λ made.
      let h = book.index.entries.items in
      let calls = subst (λ (l : List Entry). All IsCall l) (sym kept)
      (right_calls t tables.calls right) in
      elim c.else-self.branch [
        | else-self-via-then-self+then-self-2+else-self-3 w ↦
            let closed = restored closed_rows tables.closed c.args.self.has_closed h
            (kept_of tables.calls) kept (theirs.closed calls) in
            both_ways c.args.self.has_closed w.if-self-3.false (closed.1 made.closed)
        | else-self-via-then-self+else-self-2 w ↦
            let serials = restored serial_rows tables.serials c.args.self.has_serials h
            (kept_of tables.calls) kept (theirs.serials calls) in
            both_ways c.args.self.has_serials w.if-self-2.false (serials.1 made.serials)
        | else-self-via-else-self w ↦
            let ranges = restored range_rows tables.ranges c.args.self.has_ranges h
            (kept_of tables.calls) kept (theirs.ranges calls) in
            both_ways c.args.self.has_ranges w.if-self.false (ranges.1 made.ranges)
      ],
)
