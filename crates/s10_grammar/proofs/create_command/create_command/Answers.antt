use Rattle.std.proofs.Common.{rules}
use Rattle.s10_grammar.specs.Grammar.{interval, limit, needed}
use Rattle.s10_grammar.proofs.create_command.create_command.Goals as goal

pub returns : goal.returns
returns c =
    c.with.ensures _ (needed limit)
    (c.with-command-2.ensures _ (needed interval)
    (c.with-command.ensures _ _ c.named-command.ensures c.ledger_option.ensures)
    (search rules))
    (search rules)
