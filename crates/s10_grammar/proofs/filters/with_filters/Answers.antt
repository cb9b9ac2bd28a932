use Rattle.s10_grammar.proofs.filters.with_filters.Goals as goal

pub returns : goal.returns
returns c =
    λ app reads. c.with.ensures _ _
    (c.with-command-4.ensures _ _
    (c.with-command-3.ensures _ _
    (c.with-command-2.ensures _ _
    (c.with-command.ensures _ _ reads c.optional_number.ensures)
    c.optional_number-2.ensures)
    c.option.ensures)
    c.optional_number-3.ensures)
    c.optional_number-4.ensures
