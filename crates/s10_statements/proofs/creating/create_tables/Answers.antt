use Rattle.std.proofs.Common.{◌≡◌, arith, [], Ok, not, ap, sym, subst, ◌∙◌}
use Rattle.std.proofs.lemmas.Result.{on_ok_weaker}
use Rattle.sqlite.specs.Effect.{Database}
use Rattle.sqlite.specs.Held.{state}
use Rattle.s10_rows.specs.Tables.{no_rows, tables_of}
use Rattle.s10_schema.specs.Schema.{no_schema, ledger_schema}
use Rattle.s10_statements.specs.Shown.{StandsFor}
use Rattle.s10_statements.specs.Steps.{IsStep}
use Rattle.s10_statements.proofs.CrashLemmas.{either, tables_left}
use Rattle.s10_statements.proofs.MakeLemmas.{is_ledger}
use Rattle.s10_statements.proofs.StepLemmas.{step_then}
use Rattle.s10_statements.proofs.TransactionLemmas.{committed, undone}
use Rattle.s10_statements.proofs.creating.create_tables.Goals as goal

pub returns : goal.returns
returns g c =
    let begun = c.transaction-tx.ensures.begun in
    let mid = c.insert_head.new.tx.conn in
    let step : IsStep g.S.Store c.transaction-tx.result.conn mid
    (Ok c.in_ok-insert_head.field-0)
    ((state g.S.Store c.transaction-tx.result.conn.now).now.schema ≡ no_schema
    → StandsFor (state g.S.Store mid.now).now [] c.args.settings
    × ((state g.S.Store mid.now).now.schema ≡ ledger_schema)) =
    step_then c.in_ok-create_each_table.ensures c.in_ok-insert_head.ensures (λ made row none.
    let it = made none in (row.0 no_rows it.0, row.1 no_rows it.0 ∙ it.1)) in
    let it = committed {old = c.args.conn.now} {end = c.commit.new.self.0} begun step
    c.commit.ensures.survives
    c.commit.ensures.ended c.commit.ensures.ok c.commit.ensures.err in
    rw (c.conn-2-1.given.1
    (sym (c.insert_head.ensures.same_reference ∙ c.create_each_table.ensures.same_reference
    ∙ c.transaction-tx.ensures.same_reference)))
    (record {
      settled = it.settled;
      was = λ clean. (omega (arith, it.clean, clean), it.was_open clean);
      opened = it.opened;
      all = λ clean none. on_ok_weaker c.commit.result (λ out. subst
          (λ (d : Database). StandsFor d [] c.args.settings) (sym out.0)
          (out.1 (rw begun none)).0) (it.done clean);
      alone = λ clean none. on_ok_weaker c.commit.result (λ out. subst
          (λ (d : Database). d.schema ≡ ledger_schema) (sym out.0) (out.1 (rw begun none)).1)
          (it.done clean);
      none = it.none (λ clean opened. sym (c.is_autocommit.ensures.settled
          (c.is_autocommit.ensures.value ∙ ap not c.requires.idle) opened));
      crash = λ clean none db left. either (it.crash clean db left) (λ same. same) (λ out.
          tables_left (state g.S.Store mid.now).now ledger_schema db (tables_of [] c.args.settings)
          is_ledger out.0 (out.1 (rw begun none)).0);
    })

pub returns-in_err-create_each_table : goal.returns-in_err-create_each_table
returns-in_err-create_each_table g c =
    let it = undone {old = c.args.conn.now} {end = c.drop-tx.new.self.0} _
    c.transaction-tx.ensures.begun c.create_each_table.ensures c.from_residual.ensures.1
    c.drop-tx.ensures.ended c.drop-tx.ensures.undone c.drop-tx.ensures.survives in
    rw (c.conn-1.given.1
    (sym (c.create_each_table.ensures.same_reference ∙ c.transaction-tx.ensures.same_reference)))
    (record {
      settled = it.settled;
      was = λ clean. (omega (arith, it.clean, clean), it.was_open clean);
      opened = it.opened;
      all = λ clean none. on_ok_weaker c.from_residual.result (λ out. absurd out.1) (it.done clean);
      alone = λ clean none. on_ok_weaker c.from_residual.result (λ out. absurd out.1)
          (it.done clean);
      none = it.none (λ clean opened. sym (c.is_autocommit.ensures.settled
          (c.is_autocommit.ensures.value ∙ ap not c.requires.idle) opened));
      crash = λ clean none db left. either (it.crash clean db left) (λ same. same)
          (λ out. absurd out.1);
    })

pub returns-in_err-insert_head : goal.returns-in_err-insert_head
returns-in_err-insert_head g c =
    let it = undone {old = c.args.conn.now} {end = c.drop-tx-in_err-insert_head.new.self.0} _
    c.transaction-tx.ensures.begun (step_then c.in_ok-create_each_table.ensures
    c.insert_head.ensures (λ made row. row)) c.from_residual-in_err-insert_head.ensures.1
    c.drop-tx-in_err-insert_head.ensures.ended c.drop-tx-in_err-insert_head.ensures.undone
    c.drop-tx-in_err-insert_head.ensures.survives in
    rw (c.conn-in_err-insert_head-1.given.1
    (sym (c.insert_head.ensures.same_reference ∙ c.create_each_table.ensures.same_reference ∙
    c.transaction-tx.ensures.same_reference)))
    (record {
      settled = it.settled;
      was = λ clean. (omega (arith, it.clean, clean), it.was_open clean);
      opened = it.opened;
      all = λ clean none. on_ok_weaker c.from_residual-in_err-insert_head.result (λ out. absurd
          out.1) (it.done clean);
      alone = λ clean none. on_ok_weaker c.from_residual-in_err-insert_head.result (λ out. absurd
          out.1)
          (it.done clean);
      none = it.none (λ clean opened. sym (c.is_autocommit.ensures.settled
          (c.is_autocommit.ensures.value ∙ ap not c.requires.idle) opened));
      crash = λ clean none db left. either (it.crash clean db left) (λ same. same)
          (λ out. absurd out.1);
    })
