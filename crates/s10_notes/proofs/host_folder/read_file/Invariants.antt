use Rattle.std.proofs.Common.{◌≤◌}
use Rattle.s10_notes.proofs.host_folder.read_file.Given as goal

abbrev pub invariant-reads : goal.invariant-reads
invariant-reads l = l.len ≤ 161
