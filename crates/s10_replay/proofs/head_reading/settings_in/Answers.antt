use Rattle.std.proofs.Common.{arith, sym, ◌∙◌}
use Rattle.std.proofs.lemmas.Grind.{common_steps}
use Rattle.s10_replay.proofs.Replayed.{no_head}
use Rattle.s10_replay.proofs.head_reading.settings_in.Goals as goal

pub returns-in_default-settings_of-clause-err : goal.returns-in_default-settings_of-clause-err
returns-in_default-settings_of-clause-err c = λ tables same schema t head.
    no_head c.args.heads.now _ c.in_default-settings_of.ensures.none schema t
    (record { row = sym same ∙ head.row; in_limits = head.in_limits })

pub returns-clause-ok : goal.returns-clause-ok
returns-clause-ok c = grind (arith, common_steps)

pub returns-then-head-ne1-clause-head_fault : goal.returns-then-head-ne1-clause-head_fault
returns-then-head-ne1-clause-head_fault c = tt
