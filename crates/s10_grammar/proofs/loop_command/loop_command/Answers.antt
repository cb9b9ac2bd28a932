use Rattle.s10_grammar.proofs.loop_command.loop_command.Goals as goal

pub returns : goal.returns
returns c = c.with.ensures _ _ c.named-command.ensures c.day_option.ensures
