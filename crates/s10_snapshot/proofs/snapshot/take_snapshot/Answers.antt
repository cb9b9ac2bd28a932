use Rattle.std.proofs.Common.{◌∷◌, Ok, Err, refl, sym}
use Rattle.s10_snapshot.specs.Readings.{IsOfOneLog}
use Rattle.s10_snapshot.proofs.Read.{denied, one_more}
use Rattle.s10_snapshot.proofs.snapshot.take_snapshot.Goals as goal

pub returns-then-is_of_one_log-clause-taken : goal.returns-then-is_of_one_log-clause-taken
returns-then-is_of_one_log-clause-taken g c =
    let (readings, are, made, changed) = c.loop-made.invariant.changed in (
      Ok c.in-Ok.reading ∷ readings,
      (g.S.Source.calls c.loop-made.source, are, c.in-Ok.ensures.read),
      (
        c.in-Ok.reading,
        readings,
        refl,
        c.is_of_one_log.ensures.0 c.if-is_of_one_log.true,
        sym c.into_bytes.ensures,
        changed,
      ),
    )

pub returns-in-Err-clause-taken : goal.returns-in-Err-clause-taken
returns-in-Err-clause-taken g c =
    let (readings, are, made, changed) = c.loop-made.invariant.changed in (
      Err c.in-Err.fault ∷ readings,
      (g.S.Source.calls c.loop-made.source, are, c.in-Err.ensures.read),
      (readings, refl, changed),
    )

pub loop-made-preserved : goal.loop-made-preserved
loop-made-preserved g c =
    let (readings, are, made, changed) = c.loop-made.invariant.changed in record {
      changed = (
        Ok c.in-Ok.reading ∷ readings,
        (g.S.Source.calls c.loop-made.source, are, c.in-Ok.ensures.read),
        one_more (Ok c.in-Ok.reading) readings c.loop-made._made made,
        (
          denied c.is_of_one_log.result (IsOfOneLog c.in-Ok.reading) c.is_of_one_log.ensures
              c.if-is_of_one_log.false,
          changed,
        ),
      );
      at = rw c.in-Ok.ensures.at c.loop-made.invariant.at;
    }
