use Rattle.std.proofs.Common.{rules}
use Rattle.s10_core.proofs.serial.Serial.new.Goals as goal

pub returns-else-value-le-LAST : goal.returns-else-value-le-LAST
returns-else-value-le-LAST c = search rules
