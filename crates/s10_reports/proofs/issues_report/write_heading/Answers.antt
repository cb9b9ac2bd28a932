use Rattle.csv.specs.Writing.{fields_text, is_blank}
use Rattle.s10_reports.proofs.issues_report.write_heading.Goals as goal

pub returns-in-Csv : goal.returns-in-Csv
unfolding fields_text is_blank
returns-in-Csv g c = rw c.in-Csv.is c.write_record.ensures
