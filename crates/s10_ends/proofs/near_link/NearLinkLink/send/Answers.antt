use Rattle.std.proofs.Common.{refl, inr}
use Rattle.s10_link.specs.Link.LeadsTo.{none}
use Rattle.s10_ends.proofs.near_link.NearLinkLink.send.Goals as goal

pub returns-clause-trace : goal.returns-clause-trace
returns-clause-trace g c = rw (← c.self.view_is) c.send.ensures.trace

pub returns-clause-spent : goal.returns-clause-spent
returns-clause-spent g c = rw (← c.self.view_is) c.send.ensures.spent

pub returns-clause-same : goal.returns-clause-same
returns-clause-same g c = rw (← c.self.view_is) refl

pub returns-clause-step : goal.returns-clause-step
returns-clause-step g c =
    rw (← c.self.view_is) (record {
      day = refl;
      led = none;
      call = inr (
        (c.args.to, c.args.frame.now),
        c.send.result,
        c.send.ensures.trace,
        refl,
        refl,
      );
    })
