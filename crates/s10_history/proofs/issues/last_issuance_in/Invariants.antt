use Rattle.std.proofs.Common.{◌≡◌, take}
use Rattle.s10_history.specs.Issues.{last_issuance_of}
use Rattle.s10_history.proofs.issues.last_issuance_in.Given as goal

abbrev pub invariant-loop-issue : goal.invariant-loop-issue
invariant-loop-issue l = l.found ≡ last_issuance_of (take l.issue-index l.issues) l.id
