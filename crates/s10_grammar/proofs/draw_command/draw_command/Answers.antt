use Rattle.s10_grammar.proofs.draw_command.draw_command.Goals as goal

pub returns : goal.returns
returns c =
    c.with.ensures _ _
    (c.with-command-3.ensures _ _
    (c.with-command-2.ensures _ _
    (c.with-command.ensures _ _
    (c.with_asker-command.ensures _ c.named-command.ensures)
    c.service_option.ensures)
    c.country_option.ensures)
    c.count_option.ensures)
    c.tries_option.ensures
