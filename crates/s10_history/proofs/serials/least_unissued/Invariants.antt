use Rattle.std.proofs.Common.{◌≡◌, ◌-◌, ◌+◌}
use Rattle.std.specs.Prelude.{find, not}
use Rattle.std.specs.List.{range_with_len}
use Rattle.s10_history.specs.Issues.{is_issued, id_at, serials}
use Rattle.s10_history.proofs.serials.least_unissued.Given as goal

abbrev pub invariant-loop-value : goal.invariant-loop-value
invariant-loop-value l =
    find (λ serial. not (is_issued l.issues (id_at l.range serial)))
    (range_with_len l.value (l.range.last + 1 - l.value))
    ≡ find (λ serial. not (is_issued l.issues (id_at l.range serial))) (serials l.range)
