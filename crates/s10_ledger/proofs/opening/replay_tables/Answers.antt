use Rattle.std.proofs.Common.{refl, subst}
use Rattle.s10_ledger.specs.AllRows.{AreVerdictsOn}
use Rattle.std.proofs.lemmas.Result.{err_from_is_err_and}
use Rattle.sqlite.specs.Effect.{Database}
use Rattle.sqlite.specs.Held.{state}
use Rattle.s10_replay.specs.CheckedTables.{IsRefusal}
use Rattle.s10_statements.proofs.RowByRow.{if_ok, if_err}
use Rattle.s10_ledger.proofs.WholeLemmas.{refused_for}
use Rattle.s10_ledger.proofs.opening.replay_tables.Goals as goal

pub returns-clause-found : goal.returns-clause-found
returns-clause-found g c clean opened =
    let read = c.in_ok-made.ensures.rows clean opened c.requires.settled in
    let made = if_ok c.in_ok-made.made _ c.in_ok-book.book c.in_ok-book.was read.replayed.ok in
    record {
      tables = read.tables;
      has = read.has;
      whole = record {
        head = made.head;
        right = made.right;
        made = c.in_ok-check.ensures.ok c.in_ok-book.book read.tables c.in_ok-book.book.settings
            (subst (λ m. AreVerdictsOn m read.tables c.in_ok-made.verdicts) c.in_ok-book.was read.theirs)
            made.right made.kept;
      };
      kept = made.kept;
    }

pub returns-in_err-check-clause-refused : goal.returns-in_err-check-clause-refused
returns-in_err-check-clause-refused g c clean opened =
    let db : Database = (state g.S.Store c.args.conn.now).now in
    let read = c.in_ok-made.ensures.rows clean opened c.requires.settled in
    let made = if_ok c.in_ok-made.made _ c.in_ok-book.book c.in_ok-book.was read.replayed.ok in
    let p = err_from_is_err_and c.from_residual-in_err-check.result
    c.from_residual-in_err-check.ensures.1 in
    rw (p.1, p.2.0) (refused_for db read.tables (record {
      form = c.args.form;
      has = read.has;
      in_order = read.in_order;
    }) c.in_err-check.field-0.0
    (c.in_err-check.ensures.err c.in_ok-book.book read.tables c.in_ok-book.book.settings
    (subst (λ m. AreVerdictsOn m read.tables c.in_ok-made.verdicts) c.in_ok-book.was read.theirs) made.head
    made.right made.kept))

pub returns-in_err-book-clause-refused : goal.returns-in_err-book-clause-refused
returns-in_err-book-clause-refused g c clean opened =
    let db : Database = (state g.S.Store c.args.conn.now).now in
    let read = c.in_ok-made.ensures.rows clean opened c.requires.settled in
    let p = err_from_is_err_and c.from_residual-in_err-book.result
    c.from_residual-in_err-book.ensures.1 in
    rw (p.1, p.2.0) (refused_for db read.tables (record {
      form = c.args.form;
      has = read.has;
      in_order = read.in_order;
    }) c.in_err-book.field-0.0
    (if_err c.in_ok-made.made (IsRefusal read.tables) c.in_err-book.field-0.0 c.in_err-book.was
    (read.replayed.err read.tables refl refl)))

pub returns-clause-leaves : goal.returns-clause-leaves
returns-clause-leaves g c = c.read_tables.ensures.leaves

pub returns-in_err-check-clause-leaves : goal.returns-in_err-check-clause-leaves
returns-in_err-check-clause-leaves g c = c.read_tables.ensures.leaves

pub returns-in_err-book-clause-leaves : goal.returns-in_err-book-clause-leaves
returns-in_err-book-clause-leaves g c = c.read_tables.ensures.leaves

pub returns-in_err-made-clause-leaves : goal.returns-in_err-made-clause-leaves
returns-in_err-made-clause-leaves g c = c.read_tables.ensures.leaves

pub returns-clause-spares : goal.returns-clause-spares
returns-clause-spares g c = c.read_tables.ensures.spares c.requires.settled

pub returns-in_err-check-clause-spares : goal.returns-in_err-check-clause-spares
returns-in_err-check-clause-spares g c = c.read_tables.ensures.spares c.requires.settled

pub returns-in_err-book-clause-spares : goal.returns-in_err-book-clause-spares
returns-in_err-book-clause-spares g c = c.read_tables.ensures.spares c.requires.settled

pub returns-in_err-made-clause-spares : goal.returns-in_err-made-clause-spares
returns-in_err-made-clause-spares g c = c.read_tables.ensures.spares c.requires.settled
