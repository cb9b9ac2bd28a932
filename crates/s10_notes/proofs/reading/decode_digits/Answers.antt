use Rattle.std.proofs.Common.{arith, refl}
use Rattle.s10_wire.specs.Datagrams.{datagram}
use Rattle.s10_notes.proofs.Digits.{digits_length}
use Rattle.s10_notes.proofs.reading.decode_digits.Goals as goal

pub returns-then-digits-gt56-clause-read : goal.returns-then-digits-gt56-clause-read
returns-then-digits-gt56-clause-read c = λ q ok is.
    let short = c.datagrams_are_short.ensures.request (datagram 0 q) q (ok, refl) in
    let long = digits_length c.args.digits.now (datagram 0 q) is in
    absurd (omega (arith, short, long, c.if-digits-gt56.true))
