use Rattle.s10_lines.proofs.Writing.{Appends-nothing}
use Rattle.s10_reports.proofs.ranges_report.write_closed.Goals as goal

pub returns-else-closed : goal.returns-else-closed
returns-else-closed g c = rw c.if-closed.false (Appends-nothing _)
