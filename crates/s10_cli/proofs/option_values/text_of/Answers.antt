use Rattle.clap.specs.Words.{found_of}
use Rattle.s10_cli.proofs.OptionLemmas.{finds_text}
use Rattle.s10_cli.proofs.option_values.text_of.Goals as goal

pub returns : goal.returns
returns c = finds_text (found_of c.args.found.now) _ _ c.get_str.ensures
