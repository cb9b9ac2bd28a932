use Rattle.s10_grammar.proofs.serve_command.serve_command.Goals as goal

pub returns : goal.returns
returns c =
    c.with.ensures _ _
    (c.with-command-6.ensures _ _
    (c.with-command-5.ensures _ _
    (c.with-command-4.ensures _ _
    (c.with-command-3.ensures _ _
    (c.with-command-2.ensures _ _
    (c.with-command.ensures _ _ c.named-command.ensures c.ledger_option.ensures)
    c.text_option.ensures)
    c.turn_count_option.ensures)
    c.option.ensures)
    c.day_option.ensures)
    c.days_ahead_option.ensures)
    c.flag.ensures
