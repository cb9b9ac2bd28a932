use Rattle.std.proofs.Common.{arith}
use Rattle.s10_jobs.proofs.HexReading.{bytes_read}
use Rattle.s10_jobs.proofs.delivery_line.read_bytes.Goals as goal

pub returns-in-Ok : goal.returns-in-Ok
returns-in-Ok c = rw c.new.ensures (bytes_read c.args.text.now c.decode_to_slice.new.out _
    c.in-Ok.field-0 (omega arith) c.in-Ok.ensures.value)
