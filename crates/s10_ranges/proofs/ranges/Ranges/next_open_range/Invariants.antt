use Rattle.std.proofs.Common.{◌≡◌, ◌≤◌, ◌-◌, ◌^◌, List}
use Rattle.std.specs.Prelude.{find}
use Rattle.s10_history.specs.declared.entry.Entry.{Entry}
use Rattle.s10_history.specs.History.{ranges_of, is_open_after}
use Rattle.s10_ranges.specs.Mirror.{Mirrors}
use Rattle.s10_ranges.proofs.ranges.Ranges.next_open_range.Given as goal

abbrev pub invariant-loop-range : goal.invariant-loop-range
invariant-loop-range l =
    record {
      from : l.after ≤ l.past;
      open_since : (h : List Entry) → Mirrors l.self h
          → find (is_open_after h l.after l.customer l.service l.country) (ranges_of h)
          ≡ find (is_open_after h l.past l.customer l.service l.country) (ranges_of h);
    }

abbrev pub decreases-loop-range : goal.decreases-loop-range
decreases-loop-range l = 2 ^ 32 - l.past
