use Rattle.clap.specs.Words.{found_of}
use Rattle.s10_cli.proofs.OptionLemmas.{is_flag}
use Rattle.s10_cli.proofs.option_values.flag_of.Goals as goal

pub returns : goal.returns
returns c = is_flag (found_of c.args.found.now) _ _ c.get_flag.ensures.none c.get_flag.ensures.value
    c.get_flag.ensures.other
