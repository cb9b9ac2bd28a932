use Rattle.s10_grammar.proofs.GrammarLemmas.{parses}
use Rattle.s10_grammar.proofs.command.parse.Goals as goal

pub returns : goal.returns
returns g c = parses _ _ _ c.in_ok-command.ensures c.try_get_matches_from.ensures.matches
    c.try_get_matches_from.ensures.kinds
