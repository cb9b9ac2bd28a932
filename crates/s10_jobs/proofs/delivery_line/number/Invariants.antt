use Rattle.std.proofs.Common.{◌≡◌, ◌<◌, ◌^◌, take}
use Rattle.s10_core.specs.Serial.{number_of}
use Rattle.s10_jobs.proofs.delivery_line.number.Given as goal

-- The number is that of the digits before this one.
abbrev pub invariant-loop-digit : goal.invariant-loop-digit
invariant-loop-digit l = record {
  value : l.number ≡ number_of (take l.digit-index l.digits);
  small : l.number < 10 ^ l.digit-index;
}
