use Rattle.std.proofs.Common.{inl, refl}
use Rattle.s10_ends.proofs.near_link.NearLinkLink.try_receive.Goals as goal

pub serve_far-requires : goal.serve_far-requires
serve_far-requires g c = c.self.invariant

pub returns-clause-trace : goal.returns-clause-trace
returns-clause-trace g c = rw (← c.self.view_is) c.try_receive.ensures.trace

pub returns-clause-turn : goal.returns-clause-turn
returns-clause-turn g c = rw (← c.self.view_is) c.serve_far.ensures.turn

pub returns-clause-whole : goal.returns-clause-whole
returns-clause-whole g c = rw (← c.self.view_is) c.serve_far.ensures.whole

pub returns-clause-day : goal.returns-clause-day
returns-clause-day g c = rw (← c.self.view_is) refl

pub returns-clause-step : goal.returns-clause-step
returns-clause-step g c =
    rw (← c.self.view_is) (record {
      day = refl;
      led = c.serve_far.ensures.led;
      call = inl (
        c.serve_far.ensures.turn.0,
        c.try_receive.result,
        c.serve_far.ensures.turn.1,
        c.serve_far.ensures.whole,
        c.try_receive.ensures.trace,
      );
    })
