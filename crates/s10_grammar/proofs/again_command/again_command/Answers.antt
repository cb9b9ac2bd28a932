use Rattle.s10_grammar.proofs.again_command.again_command.Goals as goal

pub returns : goal.returns
returns c =
    c.with.ensures _ _
    (c.with-command-2.ensures _ _
    (c.with-command.ensures _ _ c.named-command.ensures c.to_option.ensures)
    c.text_option-notes.ensures)
    c.tries_option.ensures
