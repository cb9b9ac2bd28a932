use Rattle.s10_ranges.proofs.Marked.{made_part}
use Rattle.s10_ranges.proofs.ranges.Ranges.follow.Goals as goal

pub returns : goal.returns
returns c h t legal may few moves m =
    let made = c.follow_made.ensures.made h t legal may few moves (made_part c.args.self.now h m) in
    record {
      ranges = made.ranges;
      marks = made.marks;
      closed = c.follow.ensures h (rw c.follow_made.ensures.closed m.closed);
    }
