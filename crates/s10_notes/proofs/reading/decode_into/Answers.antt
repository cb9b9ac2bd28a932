use Rattle.std.proofs.Common.{arith}
use Rattle.s10_wire.specs.Datagrams.{datagram}
use Rattle.s10_notes.proofs.Digits.{datagram_bytes, digits_length, digits_decode}
use Rattle.s10_notes.proofs.reading.decode_into.Goals as goal

pub returns-in-Err-clause-read : goal.returns-in-Err-clause-read
returns-in-Err-clause-read c = λ q ok is.
    let long = digits_length c.args.digits.now (datagram 0 q) is in
    let read = digits_decode c.args.digits.now (datagram 0 q) c.decode_to_slice.new.out _ _
    (datagram_bytes q ok) is c.in-Err.ensures.value (omega (arith, long)) in
    absurd cc

pub returns-in-Ok-clause-read : goal.returns-in-Ok-clause-read
returns-in-Ok-clause-read c = λ q ok is.
    let long = digits_length c.args.digits.now (datagram 0 q) is in
    let read = digits_decode c.args.digits.now (datagram 0 q) c.decode_to_slice.new.out _ _
    (datagram_bytes q ok) is c.in-Ok.ensures.value (omega (arith, long)) in
    c.request_in.ensures.read q (ok, read.1)
