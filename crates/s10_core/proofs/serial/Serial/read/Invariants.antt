use Rattle.std.proofs.Common.{◌≡◌, ◌<◌, ◌^◌, take}
use Rattle.std.specs.Prelude.{All}
use Rattle.std.specs.Char.{IsAsciiDigit}
use Rattle.s10_core.specs.Serial.{number_of}
use Rattle.s10_core.proofs.serial.Serial.read.Given as goal

-- The digits so far, and the number that they represent.
abbrev pub invariant-loop-digit : goal.invariant-loop-digit
invariant-loop-digit l = record {
  value : l.value ≡ number_of (take l.digit-index l.digits);
  digits : All IsAsciiDigit (take l.digit-index l.digits);
  small : l.value < 10 ^ l.digit-index;
}
