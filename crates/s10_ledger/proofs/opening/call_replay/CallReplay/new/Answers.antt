use Rattle.std.proofs.Common.{subst, sym}
use Rattle.std.specs.Prelude.{IfErr}
use Rattle.s10_replay.specs.CheckedTables.{IsRefusal}
use Rattle.s10_ledger.proofs.opening.call_replay.CallReplay.new.Goals as goal
use Rattle.s10_ledger.proofs.opening.call_replay.CallReplay.new.Goals.{in-Ok, in-Err}

pub returns-clause-err : goal.returns-clause-err
returns-clause-err c = λ tables heads.
    elim c.match-settings_in.branch [
      | in-Ok w ↦ subst (λ m. IfErr m (IsRefusal tables)) (sym w.made-is) tt
      | in-Err w ↦
          subst (λ m. IfErr m (IsRefusal tables)) (sym w.made-is) (w.in-Err.ensures.err tables heads)
    ]
