use Rattle.std.proofs.Common.{◌≡◌, length, get_or, take, arith, rules, true, not}
use Rattle.std.specs.Prelude.{◌==◌}
use Rattle.std.proofs.lemmas.Grind.{common_steps}
use Rattle.s10_core.specs.Id.{normalized}
use Rattle.s10_core.proofs.Normalized.{one_more_kept}
use Rattle.s10_core.proofs.label.normalize_label.Goals as goal

pub returns-then-count-eq13-clause-length : goal.returns-then-count-eq13-clause-length
returns-then-count-eq13-clause-length c h =
    let kept : not (get_or c.args.text.now c.loop-character.character-index 0 == 32) ≡ true =
    search rules in
    let more = one_more_kept c.args.text.now c.loop-character.character-index (omega arith) kept in
    let front : length (normalized (take c.loop-character.character-index c.args.text.now)) ≡ 13 =
    rw (← c.loop-character.invariant.front) (grind (arith, common_steps)) in
    omega arith
