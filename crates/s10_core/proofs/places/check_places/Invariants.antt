use Rattle.s10_core.specs.TextFault.{IsRightBefore}
use Rattle.s10_core.proofs.places.check_places.Given as goal

abbrev pub invariant-loop-at : goal.invariant-loop-at
invariant-loop-at l = IsRightBefore l.text l.at
