use Rattle.s10_cli.proofs.AskLemmas.{asks_in_words}
use Rattle.s10_cli.proofs.command_line.run_line.Goals as goal

pub returns-in-Ok-clause-asks : goal.returns-in-Ok-clause-asks
returns-in-Ok-clause-asks g c = asks_in_words _ _ c.job_or_fault.result c.in-Ok.ensures.fault
    c.in-Ok.ensures.named c.job_or_fault.ensures
