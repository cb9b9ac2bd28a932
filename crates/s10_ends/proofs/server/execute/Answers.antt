use Rattle.std.proofs.Common.{◌≡◌, ◌∙◌, ℕ, ◌<◌, ◌≤◌, refl, ap, Some, ◌++◌, ◌∷◌, [], max, arith}
use Rattle.std.proofs.lemmas.Result.{err_from_is_err_and}
use Rattle.s10_history.specs.declared.entry.Entry.{Entry}
use Rattle.s10_history.specs.History.{find_entry, day_of}
use Rattle.s10_history.specs.Settings.{Terms}
use Rattle.s10_book.proofs.Calls.{grows_none, grows_trans, whole_stays, whole_kept, FindsAfter-refl}
use Rattle.s10_ends.proofs.Faulted.{told_counts, never_full, ok_not_full}
use Rattle.s10_ends.proofs.Applied.{once_new, kept_new}
use Rattle.s10_ends.proofs.Stops.{finds_once, kept_once}
use Rattle.s10_ends.proofs.server.execute.Goals as goal

-- If the count of calls is not below the limit, it equals the limit.
at_limit : (calls limit len most : ℕ) → len ≡ calls → most ≡ limit → most ≤ len → calls ≤ limit
    → calls ≡ limit
at_limit calls limit len most held bound full few = omega arith

below_limit : (calls limit len most : ℕ) → len ≡ calls → most ≡ limit → len < most → calls < limit
below_limit calls limit len most held bound few = omega arith

not_before : (last newest day today : ℕ) → newest ≡ last → today ≡ max newest day → last ≤ today
not_before last newest day today same is = omega arith

pub returns-then-limit-len-clause-faults : goal.returns-then-limit-len-clause-faults
returns-then-limit-len-clause-faults g c = refl

pub returns-then-limit-len-clause-was_honest : goal.returns-then-limit-len-clause-was_honest
returns-then-limit-len-clause-was_honest g c = λ h. h

pub returns-then-limit-len-clause-same_terms : goal.returns-then-limit-len-clause-same_terms
returns-then-limit-len-clause-same_terms g c = λ h. refl

pub returns-then-limit-len-clause-applied : goal.returns-then-limit-len-clause-applied
returns-then-limit-len-clause-applied g c = λ h. tt

pub returns-then-limit-len-clause-owed : goal.returns-then-limit-len-clause-owed
returns-then-limit-len-clause-owed g c = λ h. tt

pub returns-then-limit-len-clause-err : goal.returns-then-limit-len-clause-err
returns-then-limit-len-clause-err g c = λ h. refl

pub returns-then-limit-len-clause-full : goal.returns-then-limit-len-clause-full
returns-then-limit-len-clause-full g c = λ h full.
    let len = c.len.ensures.answer h in
    let limit = c.limit.ensures.value ∙ ap (λ (t : Terms). t.limit) (c.settings.ensures h) in
    let legal = g.met.B.Book.legal c.args.book.now h in
    (at_limit _ _ _ _ len limit c.if-limit-len.true legal.few, c.requires h)

pub returns-then-limit-len-clause-fits : goal.returns-then-limit-len-clause-fits
returns-then-limit-len-clause-fits g c = tt

pub decide-requires : goal.decide-requires
decide-requires g c = λ h. not_before _ _ c.args.day _ (c.day.ensures h) c.max-day.ensures

pub keep-requires : goal.keep-requires
keep-requires g c = λ h.
    let h1 = c.decide.ensures.unchanged.was_honest h in
    let limit = c.limit.ensures.value ∙ ap (λ (t : Terms). t.limit) (c.settings.ensures h1) in
    rw (c.decide.ensures.unchanged.same_history h, c.decide.ensures.unchanged.same_terms h) record {
      new_key = c.requires h1;
      in_order = not_before _ _ c.args.day _ (c.day.ensures h1) c.max-day.ensures;
      room = below_limit _ _ _ _ (c.len.ensures.answer h1) limit c.if-limit-len.false;
      right = c.in_ok-decide.ensures.answer h;
    }

pub returns-in_err-decide-clause-faults : goal.returns-in_err-decide-clause-faults
returns-in_err-decide-clause-faults g c =
    let p = err_from_is_err_and c.from_residual.result c.from_residual.ensures.1 in
    rw (p.1, p.2) (told_counts _ _ _ c.in_err-decide.ensures.faults)

pub returns-in_err-decide-clause-was_honest : goal.returns-in_err-decide-clause-was_honest
returns-in_err-decide-clause-was_honest g c = c.decide.ensures.unchanged.was_honest

pub returns-in_err-decide-clause-same_terms : goal.returns-in_err-decide-clause-same_terms
returns-in_err-decide-clause-same_terms g c = c.decide.ensures.unchanged.same_terms

pub returns-in_err-decide-clause-applied : goal.returns-in_err-decide-clause-applied
returns-in_err-decide-clause-applied g c =
    λ h. rw (err_from_is_err_and c.from_residual.result c.from_residual.ensures.1).1 tt

pub returns-in_err-decide-clause-owed : goal.returns-in_err-decide-clause-owed
returns-in_err-decide-clause-owed g c =
    λ h. rw (err_from_is_err_and c.from_residual.result c.from_residual.ensures.1).1 tt

pub returns-in_err-decide-clause-err : goal.returns-in_err-decide-clause-err
returns-in_err-decide-clause-err g c =
    λ h. rw (err_from_is_err_and c.from_residual.result c.from_residual.ensures.1).1
    (c.decide.ensures.unchanged.same_history h)

pub returns-in_err-decide-clause-full : goal.returns-in_err-decide-clause-full
returns-in_err-decide-clause-full g c =
    λ h full. absurd (never_full c.from_residual.result c.in_err-decide.field-0.0 _ _
    c.from_residual.ensures.1 c.in_err-decide.ensures.faults full)

pub returns-in_err-decide-clause-fits : goal.returns-in_err-decide-clause-fits
returns-in_err-decide-clause-fits g c =
    rw (err_from_is_err_and c.from_residual.result c.from_residual.ensures.1).1 tt

pub returns-in_err-keep-clause-faults : goal.returns-in_err-keep-clause-faults
returns-in_err-keep-clause-faults g c =
    let p = err_from_is_err_and c.from_residual-in_err-keep.result
    c.from_residual-in_err-keep.ensures.1 in
    rw (p.1, p.2)
    (told_counts _ _ _ (rw c.in_ok-decide.ensures.faults at c.in_err-keep.ensures.faults))

pub returns-in_err-keep-clause-was_honest : goal.returns-in_err-keep-clause-was_honest
returns-in_err-keep-clause-was_honest g c = λ h. c.decide.ensures.unchanged.was_honest
    (c.keep.ensures.was_honest h)

pub returns-in_err-keep-clause-same_terms : goal.returns-in_err-keep-clause-same_terms
returns-in_err-keep-clause-same_terms g c = λ h. c.keep.ensures.same_terms h
    ∙ c.decide.ensures.unchanged.same_terms (c.keep.ensures.was_honest h)

pub returns-in_err-keep-clause-applied : goal.returns-in_err-keep-clause-applied
returns-in_err-keep-clause-applied g c =
    λ h. rw (err_from_is_err_and c.from_residual-in_err-keep.result
    c.from_residual-in_err-keep.ensures.1).1 tt

pub returns-in_err-keep-clause-owed : goal.returns-in_err-keep-clause-owed
returns-in_err-keep-clause-owed g c =
    λ h. rw (err_from_is_err_and c.from_residual-in_err-keep.result
    c.from_residual-in_err-keep.ensures.1).1 tt

pub returns-in_err-keep-clause-err : goal.returns-in_err-keep-clause-err
returns-in_err-keep-clause-err g c =
    λ h. rw (err_from_is_err_and c.from_residual-in_err-keep.result
    c.from_residual-in_err-keep.ensures.1).1 (c.in_err-keep.ensures.err h
    ∙ c.decide.ensures.unchanged.same_history (c.keep.ensures.was_honest h))

pub returns-in_err-keep-clause-full : goal.returns-in_err-keep-clause-full
returns-in_err-keep-clause-full g c =
    λ h full. absurd (never_full c.from_residual-in_err-keep.result c.in_err-keep.field-0.0 _ _
    c.from_residual-in_err-keep.ensures.1 c.in_err-keep.ensures.faults full)

pub returns-in_err-keep-clause-fits : goal.returns-in_err-keep-clause-fits
returns-in_err-keep-clause-fits g c =
    rw (err_from_is_err_and c.from_residual-in_err-keep.result
    c.from_residual-in_err-keep.ensures.1).1 tt

pub returns-clause-faults : goal.returns-clause-faults
returns-clause-faults g c = c.in_ok-keep.ensures.faults ∙ c.in_ok-decide.ensures.faults

pub returns-clause-was_honest : goal.returns-clause-was_honest
returns-clause-was_honest g c = λ h. c.decide.ensures.unchanged.was_honest
    (c.keep.ensures.was_honest h)

pub returns-clause-same_terms : goal.returns-clause-same_terms
returns-clause-same_terms g c = λ h. c.keep.ensures.same_terms h
    ∙ c.decide.ensures.unchanged.same_terms (c.keep.ensures.was_honest h)

pub returns-clause-applied : goal.returns-clause-applied
returns-clause-applied g c = λ h.
    let h2 = c.keep.ensures.was_honest h in
    let h1 = c.decide.ensures.unchanged.was_honest h2 in
    let old = g.B.Book.history c.args.book.now in
    let day : c.max-day.result ≡ max (day_of old) c.args.day = c.max-day.ensures
    ∙ ap (λ d. max d c.args.day) (c.day.ensures h1) in
    once_new old _ c.args.request.now c.args.day c.max-day.result
    (g.B.Book.terms c.args.book.now).interval c.in_ok-decide.field-0 (c.requires h1) day
    (c.in_ok-decide.ensures.answer h2)
    (c.in_ok-keep.ensures.ok h
    ∙ ap (λ l. l ++ record {
      request = c.args.request.now;
      day = c.max-day.result;
      outcome = c.in_ok-decide.field-0;
    } ∷ []) (c.decide.ensures.unchanged.same_history h2))

pub returns-clause-owed : goal.returns-clause-owed
returns-clause-owed g c = λ h.
    let h2 = c.keep.ensures.was_honest h in
    let e : Entry = record {
      request = c.args.request.now;
      day = c.max-day.result;
      outcome = c.in_ok-decide.field-0;
    } in
    let is : find_entry (g.B.Book.history c.keep.new.self) c.args.request.now.customer
    c.args.request.now.number ≡ Some e =
    kept_new (g.B.Book.history c.args.book.now) _ e
    (c.requires (c.decide.ensures.unchanged.was_honest h2))
    (c.in_ok-keep.ensures.ok h ∙ ap (λ l. l ++ e ∷ []) (c.decide.ensures.unchanged.same_history
    h2)) in
    rw is (λ _. refl, λ other. absurd (other refl))

pub returns-clause-err : goal.returns-clause-err
returns-clause-err g c = λ h. tt

pub returns-clause-full : goal.returns-clause-full
returns-clause-full g c = λ h is. absurd (ok_not_full _ is)

pub returns-clause-fits : goal.returns-clause-fits
returns-clause-fits g c = c.in_ok-decide.ensures.fits

pub returns-then-limit-len-clause-stays_committed :
    goal.returns-then-limit-len-clause-stays_committed
returns-then-limit-len-clause-stays_committed g c =
    λ h. grows_none (g.B.Book.committed c.args.book.now)

pub returns-then-limit-len-clause-committed : goal.returns-then-limit-len-clause-committed
returns-then-limit-len-clause-committed g c = λ lasting h whole. whole

pub returns-in_err-decide-clause-stays_committed : goal.returns-in_err-decide-clause-stays_committed
returns-in_err-decide-clause-stays_committed g c = λ h. c.decide.ensures.unchanged.stays_committed h

pub returns-in_err-decide-clause-committed : goal.returns-in_err-decide-clause-committed
returns-in_err-decide-clause-committed g c = λ lasting h whole. whole_kept c.args.book.now
    c.decide.new.book c.decide.ensures.unchanged h (g.met.B.Book.first c.decide.new.book h) whole

pub returns-in_err-keep-clause-stays_committed : goal.returns-in_err-keep-clause-stays_committed
returns-in_err-keep-clause-stays_committed g c = λ h.
    grows_trans (g.B.Book.committed c.args.book.now) (g.B.Book.committed c.decide.new.book)
    (g.B.Book.committed c.keep.new.self)
    (c.decide.ensures.unchanged.stays_committed (c.keep.ensures.was_honest h))
    (c.keep.ensures.stays_committed h)

pub returns-in_err-keep-clause-committed : goal.returns-in_err-keep-clause-committed
returns-in_err-keep-clause-committed g c = λ lasting h whole.
    let kept = whole_kept c.args.book.now c.decide.new.book c.decide.ensures.unchanged
    (c.keep.ensures.was_honest h) (g.met.B.Book.first c.decide.new.book
    (c.keep.ensures.was_honest h)) whole in
    whole_stays (g.B.Book.committed c.decide.new.book) (g.B.Book.history c.decide.new.book)
    (g.B.Book.committed c.keep.new.self) (g.B.Book.history c.keep.new.self) kept
    (c.in_err-keep.ensures.err h) (c.keep.ensures.stays_committed h)
    (g.met.B.Book.first c.keep.new.self
    h)

pub returns-clause-stays_committed : goal.returns-clause-stays_committed
returns-clause-stays_committed g c = λ h.
    grows_trans (g.B.Book.committed c.args.book.now) (g.B.Book.committed c.decide.new.book)
    (g.B.Book.committed c.keep.new.self)
    (c.decide.ensures.unchanged.stays_committed (c.keep.ensures.was_honest h))
    (c.keep.ensures.stays_committed h)

pub returns-clause-committed : goal.returns-clause-committed
returns-clause-committed g c = λ lasting h whole. c.in_ok-keep.ensures.committed lasting h

-- The new call of a request is what applying the request adds.
pub returns-then-limit-len-clause-stop : goal.returns-then-limit-len-clause-stop
returns-then-limit-len-clause-stop g c = FindsAfter-refl c.args.book.now _

pub returns-in_err-decide-clause-stop : goal.returns-in_err-decide-clause-stop
returns-in_err-decide-clause-stop g c = finds_once g.B.Book.history g.B.Book.committed
    g.B.Book.terms g.B.Book.honest g.B.Book.clean g.B.Book.may_find g.met.B.Book.first
    c.args.book.now c.decide.new.book c.args.request.now c.args.day c.decide.ensures.unchanged

pub returns-in_err-keep-clause-stop : goal.returns-in_err-keep-clause-stop
returns-in_err-keep-clause-stop g c =
    let e : Entry = record {
      request = c.args.request.now;
      day = c.max-day.result;
      outcome = c.in_ok-decide.field-0;
    } in
    let old = g.B.Book.history c.args.book.now in
    kept_once g.B.Book.history g.B.Book.committed g.B.Book.terms g.B.Book.honest g.B.Book.clean
    g.B.Book.may_find g.met.B.Book.first c.args.book.now c.decide.new.book c.keep.new.self
    c.args.request.now c.args.day e c.decide.ensures.unchanged
    c.keep.ensures.stop
    (λ h.
    let h1 = c.decide.ensures.unchanged.was_honest h in
    let day : c.max-day.result ≡ max (day_of old) c.args.day = c.max-day.ensures
    ∙ ap (λ d. max d c.args.day) (c.day.ensures h1) in
    once_new old (g.B.Book.history c.decide.new.book ++ e ∷ []) c.args.request.now c.args.day
    c.max-day.result (g.B.Book.terms c.args.book.now).interval c.in_ok-decide.field-0
    (c.requires h1) day (c.in_ok-decide.ensures.answer h)
    (ap (λ l. l ++ e ∷ []) (c.decide.ensures.unchanged.same_history h)))

pub returns-clause-stop : goal.returns-clause-stop
returns-clause-stop g c =
    let e : Entry = record {
      request = c.args.request.now;
      day = c.max-day.result;
      outcome = c.in_ok-decide.field-0;
    } in
    let old = g.B.Book.history c.args.book.now in
    kept_once g.B.Book.history g.B.Book.committed g.B.Book.terms g.B.Book.honest g.B.Book.clean
    g.B.Book.may_find g.met.B.Book.first c.args.book.now c.decide.new.book c.keep.new.self
    c.args.request.now c.args.day e c.decide.ensures.unchanged
    c.keep.ensures.stop
    (λ h.
    let h1 = c.decide.ensures.unchanged.was_honest h in
    let day : c.max-day.result ≡ max (day_of old) c.args.day = c.max-day.ensures
    ∙ ap (λ d. max d c.args.day) (c.day.ensures h1) in
    once_new old (g.B.Book.history c.decide.new.book ++ e ∷ []) c.args.request.now c.args.day
    c.max-day.result (g.B.Book.terms c.args.book.now).interval c.in_ok-decide.field-0
    (c.requires h1) day (c.in_ok-decide.ensures.answer h)
    (ap (λ l. l ++ e ∷ []) (c.decide.ensures.unchanged.same_history h)))
