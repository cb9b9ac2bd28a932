use Rattle.s10_cli.proofs.JobLemmas.{done_named}
use Rattle.s10_cli.proofs.command_line.run_subcommand.Goals as goal

pub returns : goal.returns
returns g c = done_named _ _ _ _ _ _ _ c.run_named.result c.in-Some.ensures.name
    c.in-Some.ensures.rows c.run_named.ensures
