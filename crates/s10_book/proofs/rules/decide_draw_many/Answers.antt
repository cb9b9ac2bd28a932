use Rattle.std.proofs.Common.{rules, ◌≡◌, ◌∙◌, List, ap, sym}
use Rattle.std.specs.Prelude.{not}
use Rattle.s10_history.specs.declared.entry.Entry.{Entry}
use Rattle.s10_book.specs.Rules.{successive_draws}
use Rattle.s10_history.specs.Settings.{Terms}
use Rattle.s10_book.proofs.Larger.{told_of, many_told, many_nowhere}
use Rattle.s10_book.proofs.rules.decide_draw_many.Goals as goal

pub returns-then-is_none-clause-answer : goal.returns-then-is_none-clause-answer
returns-then-is_none-clause-answer g c = λ h.
    many_nowhere (g.B.Book.history c.args.book.now) c.args.customer c.args.service c.args.country
    c.args.count c.args.day (g.B.Book.terms c.args.book.now).interval c.in_ok-next_range.field-0
    (c.is_none.ensures ∙ ap not c.if-is_none.true) (c.in_ok-next_range.ensures.answer h)

pub returns-in-None-clause-answer : goal.returns-in-None-clause-answer
returns-in-None-clause-answer g c = λ h.
    let h1 = c.successive_draws.ensures.unchanged.was_honest h in
    let row : c.in_ok-drawn.drawn ≡ successive_draws (g.B.Book.history c.args.book.now)
    c.args.customer c.args.service c.args.country c.args.day
    (g.B.Book.terms c.args.book.now).interval c.args.count =
    c.in_ok-drawn.ensures.answer h
    ∙ ap (λ (l : List Entry). successive_draws l c.args.customer c.args.service c.args.country
    c.args.day (g.B.Book.terms c.next_range.new.self).interval c.args.count)
    (c.next_range.ensures.unchanged.same_history h1)
    ∙ ap (λ (t : Terms). successive_draws (g.B.Book.history c.args.book.now) c.args.customer
    c.args.service c.args.country c.args.day t.interval c.args.count)
    (c.next_range.ensures.unchanged.same_terms h1) in
    ap (told_of c.args.day) (sym c.in-None.is)
    ∙ many_told (g.B.Book.history c.args.book.now) c.args.customer c.args.service c.args.country
    c.args.count c.args.day (g.B.Book.terms c.args.book.now).interval c.in_ok-next_range.field-0
    c.in_ok-drawn.drawn
    (c.is_none.ensures ∙ ap not c.if-is_none.false) (c.in_ok-next_range.ensures.answer h1) row

pub returns-in-Some-clause-answer : goal.returns-in-Some-clause-answer
returns-in-Some-clause-answer c = search rules
