use Rattle.std.proofs.Common.{◌≡◌, drop}
use Rattle.s10_history.specs.Issues.{serial_issued_earliest}
use Rattle.s10_history.proofs.serials.issued_earliest.Given as goal

abbrev pub invariant-loop-place : goal.invariant-loop-place
invariant-loop-place l = serial_issued_earliest l.range (drop l.place l.issues)
    ≡ serial_issued_earliest l.range l.issues
