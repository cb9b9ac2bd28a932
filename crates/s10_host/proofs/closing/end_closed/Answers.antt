use Rattle.std.proofs.Common.{refl}
use Rattle.s10_host.proofs.Ending.{kept_copied, lost_closing}
use Rattle.s10_host.proofs.closing.end_closed.Goals as goal

pub returns-clause-closed : goal.returns-clause-closed
returns-clause-closed g c =
    let between = g.W.Write.contents c.args.out.now in
    let last = g.W.Write.contents c.ended-done.new.out in
    record {
      kept = kept_copied c.args.ledger.connection c.checkpoint_and_close-closed.result
          c.ended-done.result.1 c.args.ledger.committed c.args.done c.ended-done.result.0 between last
          c.checkpoint_and_close-closed.ensures.copied c.ended-done.ensures.kept;
      lost = λ none. lost_closing c.checkpoint_and_close-closed.result c.args.done
          c.ended-done.result.0 between last c.checkpoint_and_close-closed.ensures.refused
          (c.ended-done.ensures.lost none);
    }

pub returns-clause-link : goal.returns-clause-link
returns-clause-link g c = refl
