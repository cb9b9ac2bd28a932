use Rattle.std.proofs.Common.{eqb-true, refl}
use Rattle.std.proofs.lemmas.Bool.{false_from_ne_true}
use Rattle.std.specs.Prelude.{◌%◌, ◌==◌}
use Rattle.s10_notes.specs.CheckValue.{times_x}
use Rattle.s10_notes.proofs.check.times_x.Goals as goal

pub returns-then-remainder-eq1 : goal.returns-then-remainder-eq1
unfolding times_x
returns-then-remainder-eq1 c = rw c.if-remainder-eq1.true refl

pub returns-else-remainder-eq1 : goal.returns-else-remainder-eq1
unfolding times_x
returns-else-remainder-eq1 c = rw (false_from_ne_true (c.args.remainder % 2 == 1)
    (λ same. c.if-remainder-eq1.false (eqb-true _ _ same))) refl
