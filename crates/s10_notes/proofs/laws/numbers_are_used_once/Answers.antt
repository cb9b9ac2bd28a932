use Rattle.s10_notes.proofs.Lived.{used_once}
use Rattle.s10_notes.proofs.laws.numbers_are_used_once.Goals as goal

pub returns : goal.returns
returns c = used_once
