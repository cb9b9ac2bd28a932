use Rattle.std.proofs.Common.{◌≡◌, ◌∙◌, sym, ap, subst, refl, inl, inr, None}
use Rattle.s10_link.specs.Link.LeadsTo.{none}
use Rattle.s10_notes.specs.Notes.{NotesState, after_take, next_request, take_fault}
use Rattle.s10_notes.specs.Lives.{Life}
use Rattle.s10_notes.specs.Lives.Life.{taken}
use Rattle.s10_jobs.proofs.NotesRecords.{lived_unsent}
use Rattle.s10_jobs.proofs.notes_asking.ask_by_notes.Goals as goal

pub returns-in-Err-clause-led : goal.returns-in-Err-clause-led
returns-in-Err-clause-led g c = none

pub returns-in-Err-replace-clause-led : goal.returns-in-Err-replace-clause-led
returns-in-Err-replace-clause-led g c = none

pub returns-in-Err-replace-clause-lived : goal.returns-in-Err-replace-clause-lived
returns-in-Err-replace-clause-lived g c = λ first sent life lived.
    let held = g.N.Notebook.held c.args.notebook.now in
    let free : take_fault held ≡ None = ap take_fault (sym c.notes.ensures)
    ∙ sym c.in-Ok.ensures.refused in
    let is : after_take held c.args.body ≡ c.in-Ok.taken =
    ap (λ (n : NotesState). after_take n c.args.body) (sym c.notes.ensures)
    ∙ sym c.in-Ok.ensures.taken in
    let P : NotesState → Type 0 = λ n. Life first n sent in
    inl (
      lived_unsent g.N.Notebook.held g.N.Notebook.may_find _ _ c.in-Ok.taken c.in-Err-replace.fault
          first sent c.in-Err-replace.ensures.replaced (subst P is (taken life c.args.body free)) lived,
      refl,
    )

pub returns-in-Ok-replace-clause-lived : goal.returns-in-Ok-replace-clause-lived
returns-in-Ok-replace-clause-lived g c = λ first sent life lived.
    let held = g.N.Notebook.held c.args.notebook.now in
    let free : take_fault held ≡ None = ap take_fault (sym c.notes.ensures)
    ∙ sym c.in-Ok.ensures.refused in
    let is : after_take held c.args.body ≡ c.in-Ok.taken =
    ap (λ (n : NotesState). after_take n c.args.body) (sym c.notes.ensures)
    ∙ sym c.in-Ok.ensures.taken in
    let P : NotesState → Type 0 = λ n. Life first n sent in
    let written = c.in-Ok-replace.ensures.replaced in
    inr (c.ask_again.ensures.lived first sent (next_request held c.args.body)
    (λ found h. written.1 found h ∙ sym written.0)
    (ap (λ (n : NotesState). n.request) (written.0 ∙ sym is))
    (subst P (is ∙ sym written.0) (taken life c.args.body free)))
