use Rattle.s10_wire.proofs.Identifiers.{passed_text, spells_passes}
use Rattle.s10_wire.proofs.laws.identifier_fields_are_spellings.Goals as goal

pub returns : goal.returns
returns c = λ text len. (λ e. passed_text text len e, λ p. spells_passes text p.0 p.1)
