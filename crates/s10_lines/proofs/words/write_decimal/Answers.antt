use Rattle.std.proofs.Common.{rules}
use Rattle.s10_lines.proofs.words.write_decimal.Goals as goal

pub returns : goal.returns
returns g c = search rules
