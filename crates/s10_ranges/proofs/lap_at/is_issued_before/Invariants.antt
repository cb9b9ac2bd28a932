use Rattle.std.proofs.Common.{◌≡◌, false, take}
use Rattle.s10_history.specs.Issues.{is_issued, issues_at}
use Rattle.s10_ranges.proofs.lap_at.is_issued_before.Given as goal

abbrev pub invariant-loop-earlier : goal.invariant-loop-earlier
invariant-loop-earlier l = is_issued (take l.earlier (issues_at 0 l.entry)) l.id ≡ false
