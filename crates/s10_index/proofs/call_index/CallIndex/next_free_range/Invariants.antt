use Rattle.std.proofs.Common.{◌≡◌, ◌-◌, ◌^◌, List}
use Rattle.std.specs.Prelude.{find}
use Rattle.s10_history.specs.declared.entry.Entry.{Entry}
use Rattle.s10_history.specs.History.{ranges_of}
use Rattle.s10_book.specs.Rules.{is_free_after}
use Rattle.s10_index.specs.CallIndex.{Indexes}
use Rattle.s10_index.proofs.call_index.CallIndex.next_free_range.Given as goal

abbrev pub invariant-loop-range : goal.invariant-loop-range
invariant-loop-range l =
    (h : List Entry) → Indexes l.self h
    → find (is_free_after h l.after l.held.holder l.held.service l.held.country l.day l.interval)
    (ranges_of h)
    ≡ find (is_free_after h l.past l.held.holder l.held.service l.held.country l.day l.interval)
    (ranges_of h)

abbrev pub decreases-loop-range : goal.decreases-loop-range
decreases-loop-range l = 2 ^ 32 - l.past
