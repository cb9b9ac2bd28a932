use Rattle.s10_cli.proofs.OptionLemmas.{finds_serial}
use Rattle.s10_cli.proofs.option_values.serial_of.Goals as goal

pub returns : goal.returns
returns c = finds_serial _ _ _ c.new.result c.in_ok-number_of.ensures c.new.ensures
