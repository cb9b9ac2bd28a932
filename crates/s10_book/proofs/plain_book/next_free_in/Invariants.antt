use Rattle.std.proofs.Common.{◌≡◌, ◌-◌, ◌^◌}
use Rattle.std.specs.Prelude.{find}
use Rattle.s10_history.specs.History.{ranges_of}
use Rattle.s10_book.specs.Rules.{is_free_after}
use Rattle.s10_book.proofs.plain_book.next_free_in.Given as goal

abbrev pub invariant-loop-range : goal.invariant-loop-range
invariant-loop-range l =
    let h = l.book.entries.items in
    find (is_free_after h l.after l.held.holder l.held.service l.held.country l.day l.interval)
    (ranges_of h)
    ≡ find (is_free_after h l.past l.held.holder l.held.service l.held.country l.day l.interval)
    (ranges_of h)

abbrev pub decreases-loop-range : goal.decreases-loop-range
decreases-loop-range l = 2 ^ 32 - l.past
