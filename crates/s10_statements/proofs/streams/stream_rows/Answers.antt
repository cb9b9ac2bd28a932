use Rattle.std.proofs.Common.{◌≡◌, inl, Option, Some, None, refl, sym, subst, ◌∙◌, [], ◌∷◌, ◌++◌}
use Rattle.sqlite_value.specs.Order.{Row}
use Rattle.std.proofs.lemmas.Result.{err_from_is_err_and}
use Rattle.sqlite.specs.Given.{Advances, row_if}
use Rattle.s10_statements.proofs.RowByRow.{failed_leaves, begun_spares, begun, stepped, stopped}
use Rattle.s10_statements.proofs.RowByRow.{ended, failed_moves, zip_push, on_err, if_err}
use Rattle.s10_statements.proofs.streams.stream_rows.Goals as goal

pub rows-init : goal.rows-init
rows-init g c =
    let made = c.in_ok-shown.ensures in
    record {
      same_reference = refl;
      so_far = begun g.S.Store c.args.sql.now [] _
          c.args.conn.now c.in_ok-shown.shown.conn.now made.mode made.survives made.begun
          ([], tt, g.met.K.RowSink.none c.args.sink.now);
    }

pub rows-preserved : goal.rows-preserved
rows-preserved g c =
    let now = c.advance.new.self.conn.now in
    let moved = c.in_ok-advance.ensures in
    let row = c.in-Some.row.now in
    let some : row_if c.advance.new.self.has_row now ≡ Some row =
    sym (rw c.in-Some.is at c.get.ensures) in
    let next = c.in_ok-read.field-0 in
    record {
      same_reference = moved.same_reference ∙ c.rows.invariant.same_reference;
      so_far = stepped c.rows.invariant.so_far now moved.mode moved.survives row
          _ moved.same
          (λ sure. subst (λ (r : Option Row). Advances g.S.Store c.rows.shown.conn.now now r)
          some (moved.ok sure))
          (λ rows was. (
            was.0 ++ next ∷ [],
            zip_push g.T.StreamedRow.is_shown_as was.0 (was.0 ++ next ∷ []) next rows row refl
                was.1 c.in_ok-read.ensures,
            c.take.ensures c.args.sink.now was.0 was.2,
          ));
    }

pub returns-in_err-shown : goal.returns-in_err-shown
returns-in_err-shown g c =
    let refused = on_err c.query.result _ c.in_err-shown.field-0.0 c.in_err-shown.was
    c.query.follows.holds-at-none in
    let err = (err_from_is_err_and c.from_residual.result c.from_residual.ensures.1).1 in
    record {
      leaves = failed_leaves g.S.Store c.args.sql.now []
          c.args.conn.now
          c.query.follows.lender-at-none refused.survives.clean refused.mode
          c.in_err-shown.field-0.0 (λ clean. if_err c.query.result _ c.in_err-shown.field-0.0
          c.in_err-shown.was (refused.err clean));
      spares = begun_spares g.S.Store c.args.sql.now []
          c.args.conn.now
          c.query.follows.lender-at-none refused.survives.clean refused.mode refused.survives;
      opened = λ clean. rw err tt;
      rows = λ clean. rw err tt;
    }

pub returns-in_err-advance : goal.returns-in_err-advance
returns-in_err-advance g c =
    let moved = c.in_err-advance.ensures in
    let it = stopped c.rows.invariant.so_far c.advance.new.self.conn.now moved.mode
    moved.survives (λ sure. failed_moves _ _ _ (moved.kept sure)) in
    let err = (err_from_is_err_and c.from_residual-in_err-advance.result
    c.from_residual-in_err-advance.ensures.1).1 in
    rw (c.conn-in_err-advance-1.given.1 (sym (moved.same_reference ∙ c.rows.invariant.same_reference
    ∙ c.in_ok-shown.ensures.same_reference)) ∙ c.drop-shown.ensures) (record {
      leaves = it.0;
      spares = it.1;
      opened = λ clean. rw err tt;
      rows = λ clean. rw err tt;
    })

pub returns-in_err-read : goal.returns-in_err-read
returns-in_err-read g c =
    let moved = c.in_ok-advance.ensures in
    let it = stopped c.rows.invariant.so_far c.advance.new.self.conn.now moved.mode
    moved.survives (λ sure. inl (moved.same sure)) in
    let err = (err_from_is_err_and c.from_residual-in_err-read.result
    c.from_residual-in_err-read.ensures.1).1 in
    rw (c.conn-in_err-read-1.given.1 (sym (moved.same_reference ∙
    c.rows.invariant.same_reference
    ∙ c.in_ok-shown.ensures.same_reference)) ∙ c.drop-shown-in_err-read.ensures) (record {
      leaves = it.0;
      spares = it.1;
      opened = λ clean. rw err tt;
      rows = λ clean. rw err tt;
    })

pub returns-in_default : goal.returns-in_default
returns-in_default g c =
    let now = c.advance.new.self.conn.now in
    let moved = c.in_ok-advance.ensures in
    let it = stopped c.rows.invariant.so_far now moved.mode moved.survives
    (λ sure. inl (moved.same sure)) in
    let none : row_if c.advance.new.self.has_row now ≡ None =
    sym (rw c.in_default.is at c.get.ensures) in
    rw (c.conn-in_default-1.given.1 (sym (moved.same_reference ∙ c.rows.invariant.same_reference
    ∙ c.in_ok-shown.ensures.same_reference)) ∙ c.drop-shown-in_default.ensures) (record {
      leaves = it.0;
      spares = it.1;
      opened = λ clean. (moved.same clean).0.is_open;
      rows = λ clean has.
          let found = ended c.rows.invariant.so_far now moved.mode moved.survives
          (λ sure. subst (λ (r : Option Row). Advances g.S.Store c.rows.shown.conn.now now r) none
          (moved.ok sure)) clean has in
          (found.0, found.1, found.2.0, found.2.1, found.2.2);
    })

pub returns : goal.returns
returns g c =
    rw (c.conn-2-1.given.1 (sym (c.rows.invariant.same_reference
    ∙ c.in_ok-shown.ensures.same_reference)) ∙ c.drop-shown-2.ensures) (record {
      leaves = c.rows.invariant.so_far.leaves;
      spares = c.rows.invariant.so_far.spares;
      opened = λ clean. tt;
      rows = λ clean. tt;
    })
