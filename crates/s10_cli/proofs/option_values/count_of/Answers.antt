use Rattle.std.proofs.Common.{ℕ, sym, subst, codes}
use Rattle.s10_cli.specs.Options.{HasNumber, rows_in}
use Rattle.s10_cli.proofs.OptionLemmas.{finds_count, no_count}
use Rattle.s10_cli.proofs.option_values.count_of.Goals as goal

pub returns-in_default : goal.returns-in_default
returns-in_default c = no_count _ _ c.in_ok-count.ensures c.in_default.ensures

pub returns : goal.returns
returns c =
    finds_count _ c.in-Ok.count c.new.result
    (subst (λ (n : ℕ). HasNumber (rows_in c.args.found.now) (codes "count") n)
    (sym c.in-Ok.ensures.1) c.in_ok-count.ensures) c.new.ensures
