use Rattle.s10_cli.proofs.OptionLemmas.{finds_tries}
use Rattle.s10_cli.proofs.option_values.tries_of.Goals as goal

pub returns : goal.returns
returns c = finds_tries _ _ c.new.result c.in_ok-number_of.ensures c.new.ensures
