use Rattle.s10_grammar.proofs.notes_command.notes_command.Goals as goal

pub returns : goal.returns
returns c =
    c.with.ensures _ _
    (c.with-command-3.ensures _ _
    (c.with-command-2.ensures _ _
    (c.with-command.ensures _ _ c.named-command.ensures c.text_option-file.ensures)
    c.number_option-customer.ensures)
    c.number_option-first.ensures)
    c.number_option-last.ensures
