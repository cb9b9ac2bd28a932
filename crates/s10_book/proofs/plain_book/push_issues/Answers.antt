use Rattle.std.proofs.Common.{◌<◌, length, arith}
use Rattle.s10_history.specs.Issues.{issues_at}
use Rattle.s10_book.proofs.Making.{issues_more, length-issues_at}
use Rattle.s10_book.proofs.plain_book.push_issues.Goals as goal

pub loop-place-preserved : goal.loop-place-preserved
loop-place-preserved c =
    let within : c.loop-place.place < length (issues_at c.args.arrival c.args.entry.now) =
    omega (
      arith,
      c.loop-place-test.true,
      c.issued-place-end.ensures,
      length-issues_at c.args.arrival c.args.entry.now,
    ) in
    record {
      items = issues_more _ _ _ (issues_at c.args.arrival c.args.entry.now) c.loop-place.place
          c.issue.result within c.issue.ensures c.loop-place.invariant.items
          c.push_made.ensures.items;
      room = omega (arith, c.push_made.ensures.room, c.loop-place.invariant.room);
    }
