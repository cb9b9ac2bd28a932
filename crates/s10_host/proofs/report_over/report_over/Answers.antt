use Rattle.s10_host.proofs.Opening.{opened_for}
use Rattle.s10_host.proofs.report_over.report_over.Goals as goal

pub returns-clause-reported : goal.returns-clause-reported
returns-clause-reported g c =
    let book = c.in_ok-book.book in
    let found = c.in_ok-book.ensures in
    let closed = c.close.ensures in
    record {
      opened = book;
      opening = opened_for g.A.Store c.args.connection book found.opened found.honest found.found
          found.same found.history found.none_pending found.was;
      left = c.write_report-done.new.book;
      does = record {
        unchanged = c.write_report-done.ensures.unchanged;
        written = c.write_report-done.ensures.written;
      };
      closing = record {
        committed = closed.committed;
        ledger = closed.ledger;
        honest = closed.honest;
        whole = closed.whole;
        left = closed.left;
        same = closed.same;
        none_pending = closed.none_pending;
      };
    }
