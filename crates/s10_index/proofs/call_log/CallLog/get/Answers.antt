use Rattle.std.proofs.Common.{sym, arith}
use Rattle.std.proofs.lemmas.Option.{slice_get_past}
use Rattle.s10_index.proofs.call_log.CallLog.get.Goals as goal

pub returns-then-place-len : goal.returns-then-place-len
returns-then-place-len c =
    sym (slice_get_past c.args.self.now.items c.args.place (omega (
      arith,
      c.if-place-len.true,
      c.len.ensures,
    )))

pub returns : goal.returns
returns c = sym c.at.ensures
