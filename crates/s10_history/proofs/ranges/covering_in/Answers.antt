use Rattle.std.proofs.Common.{◌∙◌, rules, tests}
use Rattle.std.proofs.lemmas.Iterator.{YieldsList-from_slice}
use Rattle.std.proofs.lemmas.Iterator.Search.{find_from_yields_List}
use Rattle.s10_history.specs.History.{overlaps}
use Rattle.s10_history.proofs.ranges.covering_in.Goals as goal

pub returns : goal.returns
returns c = c.copied.ensures
    ∙ find_from_yields_List (overlaps c.args.span.now.service c.args.span.now.country
    c.args.span.now.first c.args.span.now.last) _ _ c.find.result c.find.ensures.ran
    (YieldsList-from_slice c.args.ranges.now cc) (λ x b q k. search (rules, tests))
