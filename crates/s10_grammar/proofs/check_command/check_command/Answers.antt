use Rattle.s10_grammar.proofs.check_command.check_command.Goals as goal

pub returns : goal.returns
returns c = c.with.ensures _ _ (c.with-command.ensures _ _ c.named-command.ensures c.flag.ensures)
    c.word.ensures
