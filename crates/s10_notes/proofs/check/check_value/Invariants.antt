use Rattle.std.proofs.Common.{◌≡◌, drop}
use Rattle.std.specs.Prelude.{fold}
use Rattle.s10_notes.specs.CheckValue.{after_byte}
use Rattle.s10_notes.proofs.check.check_value.Given as goal

abbrev pub invariant-loop-byte : goal.invariant-loop-byte
invariant-loop-byte l =
    fold after_byte l.remainder (drop l.byte-index l.text) ≡ fold after_byte 4294967295 l.text
