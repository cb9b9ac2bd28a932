use Rattle.s10_link.specs.UdpLink.{BoundLink, IsBoundAt}
use Rattle.s10_host.proofs.Opening.{opened_for, bound_served}
use Rattle.s10_host.proofs.serve.serve_over.Goals as goal

pub returns-clause-served : goal.returns-clause-served
returns-clause-served g c =
    let book = c.in_ok-book.book in
    let found = c.in_ok-book.ensures in
    let closed = c.close.ensures in
    record {
      opened = book;
      opening = opened_for g.A.Store c.args.connection book found.opened found.honest found.found
          found.same found.history found.none_pending found.was;
      left = c.into_inner.result;
      does = (
        λ none. rw (c.into_inner.ensures, ← c.new-batched.ensures)
            (c.serve_at-done.ensures.unbound none).0,
        rw (c.into_inner.ensures, ← c.new-batched.ensures)
            (bound_served (λ (l : BoundLink). IsBoundAt c.args.at l.at) _ _ _
            c.serve_at-done.ensures.at c.serve_at-done.ensures.served
            c.serve_at-done.ensures.turns),
      );
      closing = record {
        committed = closed.committed;
        ledger = closed.ledger;
        honest = closed.honest;
        whole = closed.whole;
        left = closed.left;
        same = closed.same;
        none_pending = closed.none_pending;
      };
    }
