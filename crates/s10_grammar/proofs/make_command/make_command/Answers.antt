use Rattle.s10_grammar.proofs.make_command.make_command.Goals as goal

pub returns : goal.returns
returns c = c.with.ensures _ _ c.named-command.ensures c.words.ensures
