use Rattle.std.proofs.Common.{◌≡◌, ◌∙◌, refl, sym, ap, Some}
use Rattle.std.proofs.lemmas.Result.{err_from_is_err_and}
use Rattle.s10_history.specs.History.{find_entry}
use Rattle.s10_book.proofs.Calls.{grows_trans, whole_kept}
use Rattle.s10_ends.proofs.Faulted.{told_counts, never_full}
use Rattle.s10_ends.proofs.Applied.{once_kept, reused_fits}
use Rattle.s10_ends.proofs.Stops.{finds_once, once_after_unchanged}
use Rattle.s10_ends.proofs.server.respond.Goals as goal

pub execute-requires : goal.execute-requires
execute-requires g c = λ h. rw (c.find.ensures.unchanged.same_history h)
    (sym (c.in_ok-entry.ensures.answer h) ∙ c.in_default.is)

pub returns-clause-faults : goal.returns-clause-faults
returns-clause-faults g c = rw c.in_ok-entry.ensures.faults at c.execute.ensures.faults

pub returns-clause-was_honest : goal.returns-clause-was_honest
returns-clause-was_honest g c = λ h. c.find.ensures.unchanged.was_honest
    (c.execute.ensures.was_honest h)

pub returns-clause-same_terms : goal.returns-clause-same_terms
returns-clause-same_terms g c = λ h. c.execute.ensures.same_terms h
    ∙ c.find.ensures.unchanged.same_terms (c.execute.ensures.was_honest h)

pub returns-clause-applied : goal.returns-clause-applied
returns-clause-applied g c = λ h. let h1 = c.execute.ensures.was_honest h in
    rw (c.find.ensures.unchanged.same_history h1, c.find.ensures.unchanged.same_terms h1)
    at (c.execute.ensures.applied h)

pub returns-clause-owed : goal.returns-clause-owed
returns-clause-owed g c = c.execute.ensures.owed

pub returns-clause-err : goal.returns-clause-err
returns-clause-err g c =
    λ h. rw (c.find.ensures.unchanged.same_history (c.execute.ensures.was_honest h))
    at (c.execute.ensures.err h)

pub returns-clause-full : goal.returns-clause-full
returns-clause-full g c = λ h full. let h1 = c.execute.ensures.was_honest h in
    rw (c.find.ensures.unchanged.same_history h1, c.find.ensures.unchanged.same_terms h1)
    at (c.execute.ensures.full h full)

pub returns-clause-fits : goal.returns-clause-fits
returns-clause-fits g c = c.execute.ensures.fits

pub returns-in-Some-clause-applied : goal.returns-in-Some-clause-applied
returns-in-Some-clause-applied g c = λ h.
    let old = g.B.Book.history c.args.book.now in
    let kept : find_entry old c.args.request.now.customer c.args.request.now.number
    ≡ Some c.in-Some.entry = sym (c.in_ok-entry.ensures.answer h) ∙ c.in-Some.is in
    c.find.ensures.unchanged.same_history h
    ∙ sym (once_kept old c.args.request.now c.args.day (g.B.Book.terms c.args.book.now).interval
    c.in-Some.entry kept)

pub returns-in-Some-clause-owed : goal.returns-in-Some-clause-owed
returns-in-Some-clause-owed g c = λ h.
    let kept : find_entry (g.B.Book.history c.find.new.self) c.args.request.now.customer
    c.args.request.now.number ≡ Some c.in-Some.entry =
    ap (λ l. find_entry l c.args.request.now.customer c.args.request.now.number)
    (c.find.ensures.unchanged.same_history h) ∙ sym (c.in_ok-entry.ensures.answer h)
    ∙ c.in-Some.is in
    rw kept
    (elim c.if-same_request.branch [
      | goal.then-same_request w ↦ (
        λ _. w.result-is,
        λ other. absurd (other (w.if-same_request.ensures.0 refl)),
      )
      | goal.else-same_request w ↦ (λ same. cc (w.if-same_request.ensures.1 same), λ _. w.result-is)
    ])

pub returns-in-Some-clause-fits : goal.returns-in-Some-clause-fits
returns-in-Some-clause-fits g c =
    elim c.if-same_request.branch [
      | goal.then-same_request w ↦
          let same : c.in-Some.entry.request ≡ c.args.request.now =
          w.if-same_request.ensures.0 refl in
          rw (w.result-is, ← same) (rw c.in-Some.is at c.in_ok-entry.ensures.fits)
      | goal.else-same_request w ↦ rw w.result-is (reused_fits c.args.request.now.body)
    ]

pub returns-in-Some-clause-faults : goal.returns-in-Some-clause-faults
returns-in-Some-clause-faults g c = c.in_ok-entry.ensures.faults

pub returns-in-Some-clause-was_honest : goal.returns-in-Some-clause-was_honest
returns-in-Some-clause-was_honest g c = λ h. c.find.ensures.unchanged.was_honest h

pub returns-in-Some-clause-same_terms : goal.returns-in-Some-clause-same_terms
returns-in-Some-clause-same_terms g c = λ h. c.find.ensures.unchanged.same_terms h

pub returns-in-Some-clause-err : goal.returns-in-Some-clause-err
returns-in-Some-clause-err g c = λ h. tt

pub returns-in_err-entry-clause-faults : goal.returns-in_err-entry-clause-faults
returns-in_err-entry-clause-faults g c =
    let p = err_from_is_err_and c.from_residual.result c.from_residual.ensures.1 in
    rw (p.1, p.2) (told_counts _ _ _ c.in_err-entry.ensures.faults)

pub returns-in_err-entry-clause-was_honest : goal.returns-in_err-entry-clause-was_honest
returns-in_err-entry-clause-was_honest g c = λ h. c.find.ensures.unchanged.was_honest h

pub returns-in_err-entry-clause-same_terms : goal.returns-in_err-entry-clause-same_terms
returns-in_err-entry-clause-same_terms g c = λ h. c.find.ensures.unchanged.same_terms h

pub returns-in_err-entry-clause-applied : goal.returns-in_err-entry-clause-applied
returns-in_err-entry-clause-applied g c =
    λ h. rw (err_from_is_err_and c.from_residual.result c.from_residual.ensures.1).1 tt

pub returns-in_err-entry-clause-owed : goal.returns-in_err-entry-clause-owed
returns-in_err-entry-clause-owed g c =
    λ h. rw (err_from_is_err_and c.from_residual.result c.from_residual.ensures.1).1 tt

pub returns-in_err-entry-clause-err : goal.returns-in_err-entry-clause-err
returns-in_err-entry-clause-err g c = λ h. let p = err_from_is_err_and c.from_residual.result
    c.from_residual.ensures.1 in rw p.1 (c.find.ensures.unchanged.same_history h)

pub returns-in_err-entry-clause-full : goal.returns-in_err-entry-clause-full
returns-in_err-entry-clause-full g c =
    λ h full. absurd (never_full c.from_residual.result c.in_err-entry.field-0.0 _ _
    c.from_residual.ensures.1 c.in_err-entry.ensures.faults full)

pub returns-in_err-entry-clause-fits : goal.returns-in_err-entry-clause-fits
returns-in_err-entry-clause-fits g c =
    rw (err_from_is_err_and c.from_residual.result c.from_residual.ensures.1).1 tt

pub returns-clause-stays_committed : goal.returns-clause-stays_committed
returns-clause-stays_committed g c = λ h.
    grows_trans (g.B.Book.committed c.args.book.now) (g.B.Book.committed c.find.new.self)
    (g.B.Book.committed c.execute.new.book)
    (c.find.ensures.unchanged.stays_committed (c.execute.ensures.was_honest h))
    (c.execute.ensures.stays_committed h)

pub returns-clause-committed : goal.returns-clause-committed
returns-clause-committed g c = λ lasting h whole.
    let h1 = c.execute.ensures.was_honest h in
    c.execute.ensures.committed lasting h (whole_kept c.args.book.now c.find.new.self
    c.find.ensures.unchanged h1 (g.met.B.Book.first c.find.new.self h1) whole)

pub returns-in-Some-clause-stays_committed : goal.returns-in-Some-clause-stays_committed
returns-in-Some-clause-stays_committed g c = λ h. c.find.ensures.unchanged.stays_committed h

pub returns-in-Some-clause-committed : goal.returns-in-Some-clause-committed
returns-in-Some-clause-committed g c = λ lasting h whole. whole_kept c.args.book.now c.find.new.self
    c.find.ensures.unchanged h (g.met.B.Book.first c.find.new.self h) whole

pub returns-in_err-entry-clause-stays_committed : goal.returns-in_err-entry-clause-stays_committed
returns-in_err-entry-clause-stays_committed g c = λ h. c.find.ensures.unchanged.stays_committed h

pub returns-in_err-entry-clause-committed : goal.returns-in_err-entry-clause-committed
returns-in_err-entry-clause-committed g c = λ lasting h whole. whole_kept c.args.book.now
    c.find.new.self c.find.ensures.unchanged h (g.met.B.Book.first c.find.new.self h) whole

pub returns-in-Some-clause-stop : goal.returns-in-Some-clause-stop
returns-in-Some-clause-stop g c = finds_once g.B.Book.history g.B.Book.committed g.B.Book.terms
    g.B.Book.honest g.B.Book.clean g.B.Book.may_find g.met.B.Book.first c.args.book.now
    c.find.new.self c.args.request.now c.args.day c.find.ensures.unchanged

pub returns-in_err-entry-clause-stop : goal.returns-in_err-entry-clause-stop
returns-in_err-entry-clause-stop g c = finds_once g.B.Book.history g.B.Book.committed g.B.Book.terms
    g.B.Book.honest g.B.Book.clean g.B.Book.may_find g.met.B.Book.first c.args.book.now
    c.find.new.self c.args.request.now c.args.day c.find.ensures.unchanged

pub returns-clause-stop : goal.returns-clause-stop
returns-clause-stop g c = once_after_unchanged g.B.Book.history g.B.Book.committed g.B.Book.terms
    g.B.Book.honest g.B.Book.clean g.B.Book.may_find g.met.B.Book.first c.args.book.now
    c.find.new.self c.execute.new.book
    c.args.request.now c.args.day c.find.ensures.unchanged c.execute.ensures.stop
