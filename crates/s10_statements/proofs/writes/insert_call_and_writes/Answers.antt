use Rattle.std.proofs.Common.{refl, ◌++◌}
use Rattle.sqlite.specs.Held.{state}
use Rattle.s10_rows.specs.Tables.{Tables}
use Rattle.s10_rows.specs.RowWrites.{FindAtMostOne}
use Rattle.s10_rows.specs.CallWrite.{with_call}
use Rattle.s10_statements.specs.LaterMarks.{HasTablesBut, range_writes}
use Rattle.s10_statements.specs.Steps.{IsStep, EditsFittingTables}
use Rattle.s10_statements.proofs.LaterMarkLemmas.{edited}
use Rattle.s10_statements.proofs.StepLemmas.{step_then, step_err}
use Rattle.s10_statements.proofs.writes.insert_call_and_writes.Goals as goal

pub returns-in_err-insert_call : goal.returns-in_err-insert_call
returns-in_err-insert_call g c = step_err _ c.from_residual.result
    c.from_residual.ensures.1 c.insert_call.ensures

pub returns-in_err-apply_range_writes :
    goal.returns-in_err-apply_range_writes
returns-in_err-apply_range_writes g c =
    step_err _ c.from_residual-in_err-apply_range_writes.result
    c.from_residual-in_err-apply_range_writes.ensures.1
    (step_then c.in_ok-insert_call.ensures c.apply_range_writes.ensures (λ p q. q))

pub returns-in_err-apply_serial_writes :
    goal.returns-in_err-apply_serial_writes
returns-in_err-apply_serial_writes g c =
    step_err _ c.from_residual-in_err-apply_serial_writes.result
    c.from_residual-in_err-apply_serial_writes.ensures.1
    (step_then (step_then c.in_ok-insert_call.ensures
    c.in_ok-apply_range_writes.ensures (λ p q. q)) c.apply_serial_writes.ensures
    (λ p q. q))

pub returns : goal.returns
returns g c =
    let w = c.args.write.now in
    let new = c.insert_if_closed.new.tx.conn in
    let few = λ (tables : Tables). FindAtMostOne w.serials.items tables.serials in
    let later = range_writes c.args.later.now in
    let ending : IsStep g.S.Store c.apply_range_writes.new.tx.conn new c.insert_if_closed.result
    (EditsFittingTables g.S.Store c.apply_range_writes.new.tx.conn new few (λ tables. record tables {
      serials = (with_call w tables).serials;
      closed = (with_call w tables).closed;
    })) = step_then c.in_ok-apply_serial_writes.ensures c.insert_if_closed.ensures
    (λ serials closed tables held fit. closed _ (rw c.deref-2.ensures.value
    at serials tables held fit)) in
    let rest : IsStep g.S.Store c.insert_call.new.tx.conn new c.insert_if_closed.result
    ((tables : Tables) → few tables
    → HasTablesBut (w.ranges.items ++ later) (state g.S.Store c.insert_call.new.tx.conn.now).now
    tables
    → HasTablesBut later (state g.S.Store new.now).now
    (record (with_call w tables) { heads = tables.heads; calls = tables.calls })) =
    step_then c.in_ok-apply_range_writes.ensures ending
    (λ ranges more tables fit held. edited later _ _
    (record tables { ranges = (with_call w tables).ranges })
    (record (with_call w tables) { heads = tables.heads; calls = tables.calls }) refl
    (λ rows held. more (record tables { ranges = rows }) held fit)
    (rw c.deref.ensures.value at ranges tables held)) in
    step_then c.in_ok-insert_call.ensures rest (λ call more. (
      call.0,
      λ tables fit held. more (record tables { calls = (with_call w tables).calls }) fit
          (edited (w.ranges.items ++ later) _ _ tables
          (record tables { calls = (with_call w tables).calls }) refl
          (λ rows held. rw c.bytes.ensures.bytes at call.1 (record tables { ranges = rows }) held)
          held),
    ))
