use Rattle.s10_grammar.proofs.show_command.show_command.Goals as goal

pub returns : goal.returns
returns c = c.with.ensures _ _ c.named-command.ensures c.word.ensures
