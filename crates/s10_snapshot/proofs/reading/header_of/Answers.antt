use Rattle.std.proofs.Common.{sym, arith, take_all}
use Rattle.s10_snapshot.proofs.reading.header_of.Goals as goal

pub returns-then-log-lt-HEADER_LEN : goal.returns-then-log-lt-HEADER_LEN
returns-then-log-lt-HEADER_LEN c =
    sym (take_all 32 c.args.log.now (omega (arith, c.if-log-lt-HEADER_LEN.true)))
