use Rattle.std.proofs.Common.{ap, subst, sym, arith, IsTrue}
use Rattle.sqlite.specs.Effect.{Database}
use Rattle.sqlite.specs.Held.{state}
use Rattle.sqlite.specs.State.{HasCleanDisk}
use Rattle.s10_schema.specs.Schema.{IsLedgerSchema}
use Rattle.s10_rows.specs.Tables.{Tables}
use Rattle.s10_statements.proofs.StateLemmas.{leaves_weaker, leaves_then}
use Rattle.s10_ledger.specs.TableLayout.{IsOfTableLayout}
use Rattle.s10_ledger.specs.AllRows.{HasVerdicts}
use Rattle.s10_ledger.proofs.Forms.{form_ledger, form_has}
use Rattle.s10_ledger.proofs.ReadingLemmas.{both_spare, spares_weaker, leaves_here, spares_here}
use Rattle.s10_ledger.proofs.opening.reading.read_tables.Goals as goal

pub returns-in_err-verdicts-clause-leaves : goal.returns-in_err-verdicts-clause-leaves
returns-in_err-verdicts-clause-leaves g c =
    leaves_here g.S.Store c.args.conn.now c.read_derived_rows.new.conn c.requires.form
    (leaves_then g.S.Store c.args.conn.now c.replay_calls.new.conn c.read_derived_rows.new.conn
    (leaves_weaker g.S.Store c.args.conn.now c.replay_calls.new.conn (form_ledger c.args.form)
    c.replay_calls.ensures.leaves) c.read_derived_rows.ensures.leaves)

pub returns-clause-leaves : goal.returns-clause-leaves
returns-clause-leaves g c =
    leaves_here g.S.Store c.args.conn.now c.read_derived_rows.new.conn c.requires.form
    (leaves_then g.S.Store c.args.conn.now c.replay_calls.new.conn c.read_derived_rows.new.conn
    (leaves_weaker g.S.Store c.args.conn.now c.replay_calls.new.conn (form_ledger c.args.form)
    c.replay_calls.ensures.leaves) c.read_derived_rows.ensures.leaves)

pub returns-in_err-verdicts-clause-spares : goal.returns-in_err-verdicts-clause-spares
returns-in_err-verdicts-clause-spares g c = λ quiet.
    let first = c.replay_calls.ensures.leaves in
    let second = c.read_derived_rows.ensures.leaves in
    spares_here (IsOfTableLayout c.args.form) IsLedgerSchema g.S.Store c.args.conn.now c.read_derived_rows.new.conn c.requires.form
    (both_spare (IsOfTableLayout c.args.form) g.S.Store c.args.conn.now c.replay_calls.new.conn c.read_derived_rows.new.conn
    second.clean
    (λ was has. ap (λ (d : Database). d.schema) (first.now was (c.in_ok-made.ensures.opened was)
    quiet (form_ledger c.args.form (state g.S.Store c.args.conn.now).now.schema has)))
    (spares_weaker IsLedgerSchema (IsOfTableLayout c.args.form) g.S.Store c.args.conn.now c.replay_calls.new.conn (form_ledger c.args.form)
    (c.replay_calls.ensures.spares quiet))
    (c.read_derived_rows.ensures.spares (first.settled quiet)))

pub returns-clause-spares : goal.returns-clause-spares
returns-clause-spares g c = λ quiet.
    let first = c.replay_calls.ensures.leaves in
    let second = c.read_derived_rows.ensures.leaves in
    spares_here (IsOfTableLayout c.args.form) IsLedgerSchema g.S.Store c.args.conn.now c.read_derived_rows.new.conn c.requires.form
    (both_spare (IsOfTableLayout c.args.form) g.S.Store c.args.conn.now c.replay_calls.new.conn c.read_derived_rows.new.conn
    second.clean
    (λ was has. ap (λ (d : Database). d.schema) (first.now was (c.in_ok-made.ensures.opened was)
    quiet (form_ledger c.args.form (state g.S.Store c.args.conn.now).now.schema has)))
    (spares_weaker IsLedgerSchema (IsOfTableLayout c.args.form) g.S.Store c.args.conn.now c.replay_calls.new.conn (form_ledger c.args.form)
    (c.replay_calls.ensures.spares quiet))
    (c.read_derived_rows.ensures.spares (first.settled quiet)))

pub returns-clause-rows : goal.returns-clause-rows
returns-clause-rows g c clean opened settled =
    let first = c.replay_calls.ensures.leaves in
    let second = c.read_derived_rows.ensures.leaves in
    let db : Database = (state g.S.Store c.args.conn.now).now in
    let has : IsLedgerSchema db.schema = form_ledger c.args.form db.schema c.requires.form in
    let mid_clean : HasCleanDisk (state g.S.Store c.replay_calls.new.conn) =
    omega (arith, second.clean, clean) in
    let mid_open : IsTrue (state g.S.Store c.replay_calls.new.conn).is_open =
    second.was_open clean opened in
    let same = first.now mid_clean mid_open settled has in
    let kept = c.in_ok-made.ensures.rows mid_clean mid_open settled has in
    let verdicts = subst (λ (d : Database). HasVerdicts c.args.form d c.in_ok-made.made
    c.in_ok-verdicts.verdicts) same
    (c.in_ok-verdicts.ensures.rows clean opened (first.settled settled)
    (subst (λ (d : Database). IsOfTableLayout c.args.form d.schema) (sym same) c.requires.form)) in
    let tables : Tables = record {
      heads = kept.0;
      calls = kept.1;
      ranges = verdicts.ranges.ranges;
      serials = verdicts.serials.serials;
      closed = verdicts.closed.closed;
    } in
    record {
      tables = tables;
      has = form_has c.args.form db tables c.requires.form
          (record {
            heads = kept.2.heads_are;
            calls = kept.2.calls_are;
            ranges = verdicts.ranges.are;
            serials = verdicts.serials.are;
          }) verdicts.serials.numbered verdicts.closed.are;
      in_order = kept.2.in_order;
      theirs = record {
        ranges = verdicts.ranges.verdict;
        serials = verdicts.serials.verdict;
        closed = verdicts.closed.verdict;
      };
      replayed = kept.3;
    }
