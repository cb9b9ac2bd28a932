use Rattle.std.specs.Str.Parse.{ParsesUnsigned, ExplainsUnsignedError, HasUnsignedDigitsIfOk}
use Rattle.clap.specs.Words.{found_of}
use Rattle.s10_cli.proofs.OptionLemmas.{finds_number}
use Rattle.s10_cli.proofs.option_values.number_of.Goals as goal

pub returns : goal.returns
returns c =
    finds_number (λ bs r. ParsesUnsigned 32 10 bs r × ExplainsUnsignedError 10 bs r
    × HasUnsignedDigitsIfOk bs r) (λ t r g. g.0)
    (found_of c.args.found.now) _ _ c.get_one.ensures.none c.get_one.ensures.value
