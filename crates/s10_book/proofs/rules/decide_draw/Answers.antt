use Rattle.std.proofs.Common.{sym, ap, ◌∙◌, List}
use Rattle.std.specs.Prelude.{find, not}
use Rattle.s10_wire.specs.declared.outcome.Outcome.TheVariants.{Drawn}
use Rattle.s10_history.specs.declared.entry.Entry.{Entry}
use Rattle.s10_history.specs.declared.candidate.Candidate.{Candidate}
use Rattle.s10_history.specs.Issues.{candidate_of, id_at}
use Rattle.s10_history.specs.History.{ranges_of, is_open}
use Rattle.s10_history.proofs.Numbering.{above, Contains-find}
use Rattle.s10_book.proofs.Calls.{Unchanged-trans}
use Rattle.s10_book.proofs.Drawing.{draw_nowhere, draw_none_free, draw_found}
use Rattle.s10_book.proofs.rules.decide_draw.Goals as goal

pub candidate-requires : goal.candidate-requires
candidate-requires g c = λ h.
    rw (c.next_free_range.ensures.unchanged.same_history h) (Contains-find _ _ _
    (sym (c.in_ok-range.ensures.answer h) ∙ c.in-Some.is))

pub returns-clause-reads : goal.returns-clause-reads
returns-clause-reads g c = record {
  faults = c.in_ok-candidate.ensures.faults ∙ c.in_ok-range.ensures.faults;
  unchanged = Unchanged-trans c.next_free_range.ensures.unchanged c.candidate.ensures.unchanged;
}

pub returns-clause-answer : goal.returns-clause-answer
returns-clause-answer g c = λ h.
    let first = g.B.Book.history c.args.book.now in
    let h0 = c.candidate.ensures.unchanged.was_honest h in
    ap (Drawn c.args.day) c.id-id.ensures
    ∙ ap (λ (chosen : Candidate). Drawn c.args.day (id_at c.in-Some.range chosen.serial))
    (c.in_ok-candidate.ensures.answer h ∙ ap (λ (l : List Entry). candidate_of l c.in-Some.range)
    (c.next_free_range.ensures.unchanged.same_history h0))
    ∙ draw_found first c.args.customer c.args.service c.args.country c.args.day _ c.in-Some.range
    (sym (c.in_ok-range.ensures.answer h0) ∙ c.in-Some.is)

pub returns-then-is_none-clause-answer : goal.returns-then-is_none-clause-answer
returns-then-is_none-clause-answer g c = λ h.
    let h0 = c.next_range.ensures.unchanged.was_honest h in
    draw_nowhere (g.B.Book.history c.args.book.now) c.args.customer c.args.service c.args.country
    c.args.day _ c.in_ok-next_range.field-0 (c.is_none.ensures ∙ ap not c.if-is_none.true)
    (c.in_ok-next_range.ensures.answer h
    ∙ ap (λ (l : List Entry). find (above (is_open l c.args.customer c.args.service c.args.country)
    0) (ranges_of l)) (c.next_free_range.ensures.unchanged.same_history h0))

pub returns-in_default-clause-answer : goal.returns-in_default-clause-answer
returns-in_default-clause-answer g c = λ h.
    let h0 = c.next_range.ensures.unchanged.was_honest h in
    draw_none_free (g.B.Book.history c.args.book.now) c.args.customer c.args.service c.args.country
    c.args.day _ c.in_ok-next_range.field-0 (c.is_none.ensures ∙ ap not c.if-is_none.false)
    (c.in_ok-next_range.ensures.answer h
    ∙ ap (λ (l : List Entry). find (above (is_open l c.args.customer c.args.service c.args.country)
    0) (ranges_of l)) (c.next_free_range.ensures.unchanged.same_history h0))
    (sym (c.in_ok-range.ensures.answer h0) ∙ c.in_default.is)
