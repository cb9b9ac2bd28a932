use Rattle.s10_cli.proofs.OptionLemmas.{finds_settings}
use Rattle.s10_cli.proofs.option_values.settings_of.Goals as goal

pub returns : goal.returns
returns c = finds_settings _ _ _ c.new.result c.in_ok-interval.ensures c.in_ok-limit.ensures
    c.new.ensures
