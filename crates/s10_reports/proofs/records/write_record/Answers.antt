use Rattle.std.proofs.Common.{rules}
use Rattle.s10_reports.proofs.records.write_record.Goals as goal

pub returns : goal.returns
returns g c = search rules
