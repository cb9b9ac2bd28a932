use Rattle.std.proofs.Common.{◌≡◌, ◌∙◌, [], map, ap, pos, subst, sym, IfOk}
use Rattle.std.proofs.lemmas.Result.{err_from_is_err_and}
use Rattle.sqlite.specs.Effect.{Database}
use Rattle.s10_schema.specs.Schema.{IsLedgerSchema}
use Rattle.s10_rows.specs.Tables.{HaveSameRows}
use Rattle.s10_statements.specs.Shown.{shown_call, call_columns}
use Rattle.s10_ledger.proofs.ReadingLemmas.{clean_between, same_between, schema_between, both_leave}
use Rattle.s10_replay.specs.CheckedTables.{IsHead}
use Rattle.s10_ledger.specs.Replaying.{IsReplayOf}
use Rattle.s10_ledger.proofs.CallReplayLemmas.{replay_of}
use Rattle.s10_ledger.proofs.ReadingLemmas.{both_spare}
use Rattle.s10_ledger.proofs.opening.reading.replay_calls.Goals as goal

pub returns-clause-leaves : goal.returns-clause-leaves
returns-clause-leaves g c = both_leave g.S.Store c.args.conn.now c.all_heads.new.conn
    c.read_calls.new.conn c.all_heads.ensures.leaves c.read_calls.ensures.leaves

pub returns-clause-opened : goal.returns-clause-opened
returns-clause-opened g c clean = c.in_ok-read_calls.ensures.opened clean

pub returns-clause-rows : goal.returns-clause-rows
returns-clause-rows g c clean opened settled has =
    let first = c.all_heads.ensures.leaves in
    let second = c.read_calls.ensures.leaves in
    let old = c.args.conn.now in
    let mid = c.all_heads.new.conn in
    let new = c.read_calls.new.conn in
    let same = same_between g.S.Store old mid new first second clean opened settled has in
    let stands = schema_between g.S.Store old mid new first second clean opened settled has in
    let found = c.in_ok-read_calls.ensures.rows clean stands in (
      c.in_ok-heads.heads.items,
      found.0,
      record {
        heads_are = c.in_ok-heads.ensures.rows (clean_between g.S.Store old mid new first second
            clean) has;
        calls_are = subst (λ (d : Database). HaveSameRows (map shown_call found.0)
            (map call_columns (d.trees 1))) same found.1;
        in_order = found.2;
      },
      subst (λ made. IsReplayOf c.in_ok-heads.heads.items found.0 made)
          (sym c.into_made.ensures)
          (replay_of c.in_ok-heads.heads.items found.0 c.new-replay.result c.read_calls.new.sink
          (subst (λ l. IfOk c.new-replay.result.made (λ book. IsHead l (pos 1) book.settings
          × (book.index.entries.items ≡ []))) c.deref.ensures.value c.new-replay.ensures.ok)
          (λ tables heads. c.new-replay.ensures.err tables (heads ∙ sym c.deref.ensures.value))
          c.new-replay.ensures.head_fault
          found.3),
    )

pub returns-in_err-read_calls-clause-leaves : goal.returns-in_err-read_calls-clause-leaves
returns-in_err-read_calls-clause-leaves g c = both_leave g.S.Store c.args.conn.now c.all_heads.new.conn
    c.read_calls.new.conn c.all_heads.ensures.leaves c.read_calls.ensures.leaves

pub returns-in_err-read_calls-clause-opened : goal.returns-in_err-read_calls-clause-opened
returns-in_err-read_calls-clause-opened g c clean =
    let p = err_from_is_err_and c.from_residual-in_err-read_calls.result
    c.from_residual-in_err-read_calls.ensures.1 in
    rw p.1 tt

pub returns-in_err-read_calls-clause-rows : goal.returns-in_err-read_calls-clause-rows
returns-in_err-read_calls-clause-rows g c clean opened settled has =
    let p = err_from_is_err_and c.from_residual-in_err-read_calls.result
    c.from_residual-in_err-read_calls.ensures.1 in
    rw p.1 tt

pub returns-in_err-heads-clause-leaves : goal.returns-in_err-heads-clause-leaves
returns-in_err-heads-clause-leaves g c = c.all_heads.ensures.leaves

pub returns-in_err-heads-clause-opened : goal.returns-in_err-heads-clause-opened
returns-in_err-heads-clause-opened g c clean =
    let p = err_from_is_err_and c.from_residual.result c.from_residual.ensures.1 in
    rw p.1 tt

pub returns-in_err-heads-clause-rows : goal.returns-in_err-heads-clause-rows
returns-in_err-heads-clause-rows g c clean opened settled has =
    let p = err_from_is_err_and c.from_residual.result c.from_residual.ensures.1 in
    rw p.1 tt

pub returns-in_err-heads-clause-spares : goal.returns-in_err-heads-clause-spares
returns-in_err-heads-clause-spares g c = λ quiet. c.all_heads.ensures.spares

pub returns-in_err-read_calls-clause-spares : goal.returns-in_err-read_calls-clause-spares
returns-in_err-read_calls-clause-spares g c = λ quiet. both_spare IsLedgerSchema g.S.Store c.args.conn.now
    c.all_heads.new.conn c.read_calls.new.conn
    c.read_calls.ensures.leaves.clean
    (λ was has. ap (λ (d : Database). d.schema) (c.all_heads.ensures.leaves.now was
    (c.in_ok-heads.ensures.opened was) quiet has)) c.all_heads.ensures.spares
    c.read_calls.ensures.spares

pub returns-clause-spares : goal.returns-clause-spares
returns-clause-spares g c = λ quiet. both_spare IsLedgerSchema g.S.Store c.args.conn.now c.all_heads.new.conn
    c.read_calls.new.conn
    c.read_calls.ensures.leaves.clean
    (λ was has. ap (λ (d : Database). d.schema) (c.all_heads.ensures.leaves.now was
    (c.in_ok-heads.ensures.opened was) quiet has)) c.all_heads.ensures.spares
    c.read_calls.ensures.spares
