use Rattle.s10_grammar.proofs.withdraw_command.withdraw_command.Goals as goal

pub returns : goal.returns
returns c =
    c.with.ensures _ _
    (c.with-command.ensures _ _
    (c.with_request-command.ensures _ c.named-command.ensures)
    c.number_option.ensures)
    c.tries_option.ensures
