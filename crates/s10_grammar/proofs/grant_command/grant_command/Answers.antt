use Rattle.s10_grammar.proofs.grant_command.grant_command.Goals as goal

pub returns : goal.returns
returns c =
    c.with.ensures _ _
    (c.with-command-5.ensures _ _
    (c.with-command-4.ensures _ _
    (c.with-command-3.ensures _ _
    (c.with-command-2.ensures _ _
    (c.with-command.ensures _ _
    (c.with_request-command.ensures _ c.named-command.ensures)
    c.number_option.ensures)
    c.service_option.ensures)
    c.country_option.ensures)
    c.serial_option.ensures)
    c.serial_option-2.ensures)
    c.tries_option.ensures
