use Rattle.std.specs.Prelude.{[]}
use Rattle.s10_host.proofs.Opening.{none_pending}
use Rattle.s10_host.proofs.create.create_over.Goals as goal

pub returns-clause-created : goal.returns-clause-created
returns-clause-created g c =
    let book = c.in_ok-book.book in
    let made = c.in_ok-book.ensures in
    let closed = c.close.ensures in (
      book,
      record {
        settings = made.new.0;
        fresh = made.fresh;
        sound = made.was;
        honest = λ clean. made.honest clean (made.opened clean);
        empty = none_pending g.A.Store book [] made.none_pending made.empty;
        none_pending = made.none_pending;
      },
      record {
        committed = closed.committed;
        ledger = closed.ledger;
        honest = closed.honest;
        whole = closed.whole;
        left = closed.left;
        same = closed.same;
        none_pending = closed.none_pending;
      },
    )
