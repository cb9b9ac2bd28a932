use Rattle.std.proofs.Common.{rules, codes}
use Rattle.s10_grammar.specs.Grammar.{interval, limit, or_else}
use Rattle.s10_grammar.proofs.replay_command.replay_command.Goals as goal

pub returns : goal.returns
returns c =
    c.with.ensures _ (or_else (codes "1000000") limit)
    (c.with-command.ensures _ (or_else (codes "30") interval) c.named-command.ensures
    (search rules))
    (search rules)
