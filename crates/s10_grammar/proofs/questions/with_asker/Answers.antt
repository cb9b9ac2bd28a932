use Rattle.s10_grammar.proofs.questions.with_asker.Goals as goal

pub returns : goal.returns
returns c =
    λ app reads. c.with.ensures _ _
    (c.with-command-3.ensures _ _
    (c.with-command-2.ensures _ _
    (c.with-command.ensures _ _ reads c.to_option.ensures)
    c.customer_option.ensures)
    c.request_option.ensures)
    c.notes_option.ensures
