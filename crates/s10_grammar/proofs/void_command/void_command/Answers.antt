use Rattle.s10_grammar.proofs.void_command.void_command.Goals as goal

pub returns : goal.returns
returns c =
    c.with.ensures _ _
    (c.with-command.ensures _ _
    (c.with_asker-command.ensures _ c.named-command.ensures)
    c.id_option.ensures)
    c.tries_option.ensures
