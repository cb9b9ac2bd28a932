use Rattle.std.proofs.Common.{◌≤◌, ◌+◌, List}
use Rattle.s10_history.specs.declared.entry.Entry.{Entry}
use Rattle.s10_history.specs.Usage.{FindsLastIssues}
use Rattle.s10_history.proofs.Counting.{UsedBelow}
use Rattle.s10_history.proofs.counts.usage_by.Given as goal

abbrev pub invariant-loop-value : goal.invariant-loop-value
invariant-loop-value g l =
    record {
      used : l.usage.used + l.range.first ≤ l.value;
      voided : l.usage.voided + l.range.first ≤ l.value;
      free : l.usage.free + l.range.first ≤ l.value;
      below : (h : List Entry) → FindsLastIssues g.F.Fn l.last_issue h
          → UsedBelow h l.range l.day l.interval l.value l.usage;
    }
