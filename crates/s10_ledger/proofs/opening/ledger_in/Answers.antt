use Rattle.std.proofs.Common.{inl, refl, subst, ◌∙◌}
use Rattle.std.proofs.lemmas.Result.{err_from_is_err_and}
use Rattle.sqlite_schema.specs.declared.schema.Schema.{Schema}
use Rattle.sqlite.specs.Held.{state}
use Rattle.s10_ledger.specs.TableLayout.{IsOfTableLayout}
use Rattle.s10_ledger.specs.Refusals.{HasSomeTableLayout}
use Rattle.s10_ledger.proofs.Forms.{form_ledger}
use Rattle.s10_ledger.proofs.OpeningLemmas.{sound_before, was_sound, as_read, as_it_was}
use Rattle.s10_ledger.proofs.OpeningLemmas.{same_history, completed_ledger, completed_index}
use Rattle.s10_ledger.proofs.OpeningLemmas.{found_ledger, refused_by_store, completes}
use Rattle.s10_ledger.proofs.opening.ledger_in.Goals as goal

pub replay_tables-requires-clause-form : goal.replay_tables-requires-clause-form
replay_tables-requires-clause-form g c = subst (λ (s : Schema). IsOfTableLayout c.in-Some.form s)
    c.schema.ensures.value c.in-Some.ensures.some

pub returns-clause-was : goal.returns-clause-was
returns-clause-was g c =
    let declared = subst (λ (s : Schema). IsOfTableLayout c.in-Some.form s) c.schema.ensures.value
    c.in-Some.ensures.some in
    was_sound g.S.Store c.args.conn.now c.replay_tables.new.conn c.complete.new.conn c.in-Some.form
    declared c.requires.settled c.replay_tables.ensures.leaves c.complete.ensures.was

pub returns-clause-same : goal.returns-clause-same
returns-clause-same g c clean opened closed =
    let declared = subst (λ (s : Schema). IsOfTableLayout c.in-Some.form s) c.schema.ensures.value
    c.in-Some.ensures.some in
    let was = as_read g.S.Store c.args.conn.now c.replay_tables.new.conn c.complete.new.conn
    c.in-Some.form declared c.requires.settled c.replay_tables.ensures.leaves
    c.complete.ensures.was clean opened in
    as_it_was c.in-Some.form (state g.S.Store c.args.conn.now).now
    (state g.S.Store c.replay_tables.new.conn).now (state g.S.Store c.complete.new.conn).now
    declared was c.complete.ensures.same closed

pub returns-clause-history : goal.returns-clause-history
returns-clause-history g c clean opened =
    let declared = subst (λ (s : Schema). IsOfTableLayout c.in-Some.form s) c.schema.ensures.value
    c.in-Some.ensures.some in
    let was = as_read g.S.Store c.args.conn.now c.replay_tables.new.conn c.complete.new.conn
    c.in-Some.form declared c.requires.settled c.replay_tables.ensures.leaves
    c.complete.ensures.was clean opened in
    let sound = c.complete.ensures.was clean in
    same_history c.in-Some.form (state g.S.Store c.args.conn.now).now
    (state g.S.Store c.replay_tables.new.conn).now (state g.S.Store c.complete.new.conn).now
    c.in_ok-book.book
    (c.in_ok-book.ensures.found sound.0 (sound.1 opened)) was
    (c.in_ok-complete.ensures.whole clean)

pub returns-clause-ledger : goal.returns-clause-ledger
returns-clause-ledger g c clean opened =
    let declared = subst (λ (s : Schema). IsOfTableLayout c.in-Some.form s) c.schema.ensures.value
    c.in-Some.ensures.some in
    let was = as_read g.S.Store c.args.conn.now c.replay_tables.new.conn c.complete.new.conn
    c.in-Some.form declared c.requires.settled c.replay_tables.ensures.leaves
    c.complete.ensures.was clean opened in
    let sound = c.complete.ensures.was clean in
    completed_ledger c.in-Some.form (state g.S.Store c.args.conn.now).now
    (state g.S.Store c.replay_tables.new.conn).now (state g.S.Store c.complete.new.conn).now
    c.in_ok-book.book
    (c.in_ok-book.ensures.found sound.0 (sound.1 opened)) was
    (c.in_ok-complete.ensures.whole clean)

pub returns-clause-found : goal.returns-clause-found
returns-clause-found g c clean opened =
    let sound = c.complete.ensures.was clean in
    found_ledger c.in-Some.form (state g.S.Store c.args.conn.now).now c.in_ok-book.book
    (c.in_ok-book.ensures.found sound.0 (sound.1 opened))

pub returns-clause-indexed : goal.returns-clause-indexed
returns-clause-indexed g c clean opened =
    let declared = subst (λ (s : Schema). IsOfTableLayout c.in-Some.form s) c.schema.ensures.value
    c.in-Some.ensures.some in
    let was = as_read g.S.Store c.args.conn.now c.replay_tables.new.conn c.complete.new.conn
    c.in-Some.form declared c.requires.settled c.replay_tables.ensures.leaves
    c.complete.ensures.was clean opened in
    let sound = c.complete.ensures.was clean in
    completed_index c.in-Some.form (state g.S.Store c.args.conn.now).now
    (state g.S.Store c.replay_tables.new.conn).now (state g.S.Store c.complete.new.conn).now
    c.in_ok-book.book
    (c.in_ok-book.ensures.found sound.0 (sound.1 opened)) was
    (c.in_ok-complete.ensures.whole clean)

pub returns-in_err-book-clause-same : goal.returns-in_err-book-clause-same
returns-in_err-book-clause-same g c clean opened closed = c.replay_tables.ensures.leaves.now clean
    opened c.requires.settled closed.ledger

pub returns-in_err-book-clause-kept : goal.returns-in_err-book-clause-kept
returns-in_err-book-clause-kept g c clean opened =
    let declared = subst (λ (s : Schema). IsOfTableLayout c.in-Some.form s) c.schema.ensures.value
    c.in-Some.ensures.some in
    let p = err_from_is_err_and c.from_residual.result c.from_residual.ensures.1 in
    rw p.1 (c.replay_tables.ensures.leaves.now clean opened c.requires.settled
    (form_ledger c.in-Some.form (state g.S.Store c.args.conn.now).now.schema declared))

pub returns-in_err-book-clause-refused : goal.returns-in_err-book-clause-refused
returns-in_err-book-clause-refused g c clean opened =
    let p = err_from_is_err_and c.from_residual.result c.from_residual.ensures.1 in
    rw (p.1, p.2) (c.in_err-book.ensures.refused clean opened)

pub returns-in_err-complete-clause-was : goal.returns-in_err-complete-clause-was
returns-in_err-complete-clause-was g c =
    let declared = subst (λ (s : Schema). IsOfTableLayout c.in-Some.form s) c.schema.ensures.value
    c.in-Some.ensures.some in
    was_sound g.S.Store c.args.conn.now c.replay_tables.new.conn c.complete.new.conn c.in-Some.form
    declared c.requires.settled c.replay_tables.ensures.leaves c.complete.ensures.was

pub returns-in_err-complete-clause-same : goal.returns-in_err-complete-clause-same
returns-in_err-complete-clause-same g c clean opened closed =
    let declared = subst (λ (s : Schema). IsOfTableLayout c.in-Some.form s) c.schema.ensures.value
    c.in-Some.ensures.some in
    let was = as_read g.S.Store c.args.conn.now c.replay_tables.new.conn c.complete.new.conn
    c.in-Some.form declared c.requires.settled c.replay_tables.ensures.leaves
    c.complete.ensures.was clean opened in
    as_it_was c.in-Some.form (state g.S.Store c.args.conn.now).now
    (state g.S.Store c.replay_tables.new.conn).now (state g.S.Store c.complete.new.conn).now
    declared was c.complete.ensures.same closed

pub returns-in_err-complete-clause-kept : goal.returns-in_err-complete-clause-kept
returns-in_err-complete-clause-kept g c clean opened =
    let declared = subst (λ (s : Schema). IsOfTableLayout c.in-Some.form s) c.schema.ensures.value
    c.in-Some.ensures.some in
    let was = as_read g.S.Store c.args.conn.now c.replay_tables.new.conn c.complete.new.conn
    c.in-Some.form declared c.requires.settled c.replay_tables.ensures.leaves
    c.complete.ensures.was clean opened in
    let p = err_from_is_err_and c.from_residual-in_err-complete.result
    c.from_residual-in_err-complete.ensures.1 in
    rw p.1 (c.in_err-complete.ensures.none clean opened ∙ was)

pub returns-in_err-complete-clause-refused : goal.returns-in_err-complete-clause-refused
returns-in_err-complete-clause-refused g c clean opened =
    let p = err_from_is_err_and c.from_residual-in_err-complete.result
    c.from_residual-in_err-complete.ensures.1 in
    rw p.1 (refused_by_store (state g.S.Store c.args.conn.now).now p.0.fault p.2.1.0)

pub returns-in_default-clause-refused : goal.returns-in_default-clause-refused
returns-in_default-clause-refused g c clean opened =
    let none = rw c.in_default.is at c.table_layout_of.ensures.none in
    rw c.from.ensures.0 (inl (subst (λ (s : Schema). HasSomeTableLayout s → ⊥) c.schema.ensures.value
    none))

pub returns-in_default-clause-settled : goal.returns-in_default-clause-settled
returns-in_default-clause-settled g c = c.requires.settled

pub returns-in_default-clause-was : goal.returns-in_default-clause-was
returns-in_default-clause-was g c = λ clean. (clean, λ opened. opened)

pub returns-in_default-clause-opened : goal.returns-in_default-clause-opened
returns-in_default-clause-opened g c = λ clean. tt

pub returns-in_default-clause-same : goal.returns-in_default-clause-same
returns-in_default-clause-same g c = λ clean opened closed. refl

pub returns-in_default-clause-kept : goal.returns-in_default-clause-kept
returns-in_default-clause-kept g c = λ clean opened. refl

pub returns-in_default-clause-history : goal.returns-in_default-clause-history
returns-in_default-clause-history g c = λ clean opened. tt

pub returns-in_default-clause-ledger : goal.returns-in_default-clause-ledger
returns-in_default-clause-ledger g c = λ clean opened. tt

pub returns-in_default-clause-found : goal.returns-in_default-clause-found
returns-in_default-clause-found g c = λ clean opened. tt

pub returns-in_default-clause-indexed : goal.returns-in_default-clause-indexed
returns-in_default-clause-indexed g c = tt

pub replay_tables-requires-clause-settled : goal.replay_tables-requires-clause-settled
replay_tables-requires-clause-settled g c = c.requires.settled

pub returns-in_err-book-clause-settled : goal.returns-in_err-book-clause-settled
returns-in_err-book-clause-settled g c = c.replay_tables.ensures.leaves.settled c.requires.settled

pub returns-in_err-book-clause-was : goal.returns-in_err-book-clause-was
returns-in_err-book-clause-was g c = sound_before g.S.Store c.args.conn.now
    c.replay_tables.new.conn c.replay_tables.ensures.leaves.clean
    c.replay_tables.ensures.leaves.was_open

pub returns-in_err-book-clause-opened : goal.returns-in_err-book-clause-opened
returns-in_err-book-clause-opened g c =
    let p = err_from_is_err_and c.from_residual.result c.from_residual.ensures.1 in
    rw p.1 (λ clean. tt)

pub returns-in_err-book-clause-history : goal.returns-in_err-book-clause-history
returns-in_err-book-clause-history g c =
    let p = err_from_is_err_and c.from_residual.result c.from_residual.ensures.1 in
    rw p.1 (λ clean opened. tt)

pub returns-in_err-book-clause-ledger : goal.returns-in_err-book-clause-ledger
returns-in_err-book-clause-ledger g c =
    let p = err_from_is_err_and c.from_residual.result c.from_residual.ensures.1 in
    rw p.1 (λ clean opened. tt)

pub returns-in_err-book-clause-found : goal.returns-in_err-book-clause-found
returns-in_err-book-clause-found g c =
    let p = err_from_is_err_and c.from_residual.result c.from_residual.ensures.1 in
    rw p.1 (λ clean opened. tt)

pub returns-in_err-book-clause-indexed : goal.returns-in_err-book-clause-indexed
returns-in_err-book-clause-indexed g c =
    let p = err_from_is_err_and c.from_residual.result c.from_residual.ensures.1 in
    rw p.1 tt

pub returns-in_err-complete-clause-settled : goal.returns-in_err-complete-clause-settled
returns-in_err-complete-clause-settled g c = c.complete.ensures.settled

pub returns-in_err-complete-clause-opened : goal.returns-in_err-complete-clause-opened
returns-in_err-complete-clause-opened g c =
    let p = err_from_is_err_and c.from_residual-in_err-complete.result
    c.from_residual-in_err-complete.ensures.1 in
    rw p.1 (λ clean. tt)

pub returns-in_err-complete-clause-history : goal.returns-in_err-complete-clause-history
returns-in_err-complete-clause-history g c =
    let p = err_from_is_err_and c.from_residual-in_err-complete.result
    c.from_residual-in_err-complete.ensures.1 in
    rw p.1 (λ clean opened. tt)

pub returns-in_err-complete-clause-ledger : goal.returns-in_err-complete-clause-ledger
returns-in_err-complete-clause-ledger g c =
    let p = err_from_is_err_and c.from_residual-in_err-complete.result
    c.from_residual-in_err-complete.ensures.1 in
    rw p.1 (λ clean opened. tt)

pub returns-in_err-complete-clause-found : goal.returns-in_err-complete-clause-found
returns-in_err-complete-clause-found g c =
    let p = err_from_is_err_and c.from_residual-in_err-complete.result
    c.from_residual-in_err-complete.ensures.1 in
    rw p.1 (λ clean opened. tt)

pub returns-in_err-complete-clause-indexed : goal.returns-in_err-complete-clause-indexed
returns-in_err-complete-clause-indexed g c =
    let p = err_from_is_err_and c.from_residual-in_err-complete.result
    c.from_residual-in_err-complete.ensures.1 in
    rw p.1 tt

pub returns-clause-settled : goal.returns-clause-settled
returns-clause-settled g c = c.complete.ensures.settled

pub returns-clause-opened : goal.returns-clause-opened
returns-clause-opened g c = λ clean. c.in_ok-complete.ensures.opened clean
    (c.in_ok-book.ensures.opened (c.complete.ensures.was clean).0)

pub returns-clause-kept : goal.returns-clause-kept
returns-clause-kept g c = λ clean opened. tt

pub returns-clause-refused : goal.returns-clause-refused
returns-clause-refused g c = λ clean opened. tt

pub returns-in_default-clause-crash : goal.returns-in_default-clause-crash
returns-in_default-clause-crash g c = λ clean db left. inl left

pub returns-in_err-book-clause-crash : goal.returns-in_err-book-clause-crash
returns-in_err-book-clause-crash g c = λ clean db left.
    let declared = subst (λ (s : Schema). IsOfTableLayout c.in-Some.form s) c.schema.ensures.value
    c.in-Some.ensures.some in
    inl (c.replay_tables.ensures.spares clean (form_ledger c.in-Some.form
    (state g.S.Store c.args.conn.now).now.schema declared) db left)

pub returns-in_err-complete-clause-crash : goal.returns-in_err-complete-clause-crash
returns-in_err-complete-clause-crash g c =
    let declared = subst (λ (s : Schema). IsOfTableLayout c.in-Some.form s) c.schema.ensures.value
    c.in-Some.ensures.some in
    completes g.S.Store c.args.conn.now c.replay_tables.new.conn c.complete.new.conn c.in-Some.form
    declared c.requires.settled c.replay_tables.ensures.leaves c.replay_tables.ensures.spares
    c.complete.ensures.was c.complete.ensures.crash

pub returns-clause-crash : goal.returns-clause-crash
returns-clause-crash g c =
    let declared = subst (λ (s : Schema). IsOfTableLayout c.in-Some.form s) c.schema.ensures.value
    c.in-Some.ensures.some in
    completes g.S.Store c.args.conn.now c.replay_tables.new.conn c.complete.new.conn c.in-Some.form
    declared c.requires.settled c.replay_tables.ensures.leaves c.replay_tables.ensures.spares
    c.complete.ensures.was c.complete.ensures.crash

pub returns-in_default-clause-no_tables : goal.returns-in_default-clause-no_tables
returns-in_default-clause-no_tables g c = λ none. c.from.ensures.0

pub returns-in_err-book-clause-no_tables : goal.returns-in_err-book-clause-no_tables
returns-in_err-book-clause-no_tables g c = λ none. absurd (none (
  c.in-Some.form,
  subst (λ (s : Schema). IsOfTableLayout c.in-Some.form s) c.schema.ensures.value
      c.in-Some.ensures.some,
))

pub returns-in_err-complete-clause-no_tables : goal.returns-in_err-complete-clause-no_tables
returns-in_err-complete-clause-no_tables g c = λ none. absurd (none (
  c.in-Some.form,
  subst (λ (s : Schema). IsOfTableLayout c.in-Some.form s) c.schema.ensures.value
      c.in-Some.ensures.some,
))

pub returns-clause-no_tables : goal.returns-clause-no_tables
returns-clause-no_tables g c = λ none. tt

pub returns-in_err-complete-clause-cause : goal.returns-in_err-complete-clause-cause
returns-in_err-complete-clause-cause g c =
    let p = err_from_is_err_and c.from_residual-in_err-complete.result
    c.from_residual-in_err-complete.ensures.1 in
    rw (p.1, p.2.0) p.2.1
