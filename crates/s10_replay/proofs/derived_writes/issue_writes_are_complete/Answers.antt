use Rattle.s10_replay.proofs.IssueRows.{none_make, all_make}
use Rattle.s10_replay.proofs.derived_writes.issue_writes_are_complete.Goals as goal

pub returns : goal.returns
returns c = record { none = none_make; all = all_make }
