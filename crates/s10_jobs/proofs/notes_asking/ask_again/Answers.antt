use Rattle.std.proofs.Common.{sym, ap, ◌∙◌}
use Rattle.std.proofs.lemmas.Option.{same_Some}
use Rattle.s10_link.specs.Link.LeadsTo.{none}
use Rattle.s10_notes.specs.Notes.{NotesState}
use Rattle.s10_jobs.proofs.NotesRecords.{lived_after_request}
use Rattle.s10_jobs.proofs.notes_asking.ask_again.Goals as goal

pub returns-in-Some-clause-lived : goal.returns-in-Some-clause-lived
returns-in-Some-clause-lived g c = λ first sent q settled open_one life.
    lived_after_request g.N.Notebook.held g.N.Notebook.may_find c.in-Some.request _ _ _ _ _ _ _ _ _
    c.ask_request.ensures.asked first sent q settled open_one
    (same_Some _ _ (sym open_one ∙ ap (λ (n : NotesState). n.request) (sym c.notes.ensures)
    ∙ sym c.in-Some.ensures)) life

pub returns-in-None-clause-led : goal.returns-in-None-clause-led
returns-in-None-clause-led g c = none
