use Rattle.s10_grammar.proofs.report_command.report_command.Goals as goal

pub returns : goal.returns
returns c =
    c.with.ensures _ _
    (c.with_filters-command.ensures _
    (c.with-command-4.ensures _ _
    (c.with-command-3.ensures _ _
    (c.with-command-2.ensures _ _
    (c.with-command.ensures _ _ c.named-command.ensures c.ledger_option.ensures)
    c.snapshot_option.ensures)
    c.flag.ensures)
    c.flag-2.ensures))
    c.day_option.ensures
