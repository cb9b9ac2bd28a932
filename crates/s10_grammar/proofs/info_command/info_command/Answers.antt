use Rattle.s10_grammar.proofs.info_command.info_command.Goals as goal

pub returns : goal.returns
returns c =
    c.with.ensures _ _
    (c.with-command-2.ensures _ _
    (c.with-command.ensures _ _ c.named-command.ensures c.ledger_option.ensures)
    c.snapshot_option.ensures)
    c.day_option.ensures
