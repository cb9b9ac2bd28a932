use Rattle.std.proofs.Common.{◌∙◌, sym, subst}
use Rattle.s10_ranges.specs.Rests.{IsRestOf}
use Rattle.s10_index.proofs.Rested.{rest_is, rest_set}
use Rattle.s10_index.proofs.call_index.CallIndex.set_rest.Goals as goal

pub returns-in-Some-clause-same : goal.returns-in-Some-clause-same
returns-in-Some-clause-same c h was =
    let r = c.in-Some.range in
    let own = rest_set h c.args.self.now.ranges c.args.num r was.ranges
    (sym c.range_by_number.ensures ∙ c.in-Some.is) in
    record {
      calls = was.calls;
      ranges = was.ranges;
      rests = c.set.ensures h r was.rests own.0 own.1
          (subst (IsRestOf h r) (sym (c.rest-rest.ensures h was own.0)) (rest_is h r));
      positions = was.positions;
      issues = was.issues;
      ids = was.ids;
    }
