use Rattle.std.proofs.Common.{◌∙◌, nat_lt, not, ◌&&◌, rules, tests}
use Rattle.std.proofs.lemmas.Iterator.{YieldsList-from_slice}
use Rattle.std.proofs.lemmas.Iterator.Search.{find_from_yields_List}
use Rattle.s10_history.specs.History.{is_held, is_closed}
use Rattle.s10_history.proofs.ranges.next_range_in.Goals as goal

pub returns : goal.returns
returns c = c.copied.ensures ∙ find_from_yields_List (λ r. nat_lt c.args.after r.num
    && (is_held c.args.held.now.holder c.args.held.now.service c.args.held.now.country r
    && not (is_closed c.args.entries.now r.num))) _ _ c.find.result c.find.ensures.ran
    (YieldsList-from_slice c.args.ranges.now cc) (λ x b q k. search (rules, tests))
