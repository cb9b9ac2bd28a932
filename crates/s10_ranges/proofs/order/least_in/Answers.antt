use Rattle.s10_ranges.proofs.Leasts.{least_part}
use Rattle.s10_ranges.proofs.order.least_in.Goals as goal

pub returns : goal.returns
returns c = least_part c.args.order.now c.args.start c.args.end c.in_ok-part.part.now c.least.result
    c.in_ok-part.ensures.lookup.0 c.least.ensures
