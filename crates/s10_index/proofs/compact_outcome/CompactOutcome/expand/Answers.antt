use Rattle.std.proofs.Common.{◌∙◌, List, [], sym, ap}
use Rattle.std.proofs.lemmas.Option.{get_or_from_slice_get}
use Rattle.s10_core.specs.declared.id.Id.{Id}
use Rattle.s10_wire.specs.declared.outcome.Outcome.TheVariants as outcomes
use Rattle.s10_index.specs.CompactOutcomes.{outcome_of}
use Rattle.s10_index.proofs.compact_outcome.CompactOutcome.expand.Goals as goal

pub returns-in-DrawnMany : goal.returns-in-DrawnMany
returns-in-DrawnMany c =
    let sheets = c.args.sheets.now.items in
    ap (λ (ids : List Id). outcomes.DrawnMany c.in-DrawnMany.day ids)
    (sym (get_or_from_slice_get sheets c.in-DrawnMany.sheet c.at.result [] c.at.ensures))
    ∙ ap (outcome_of sheets) (sym c.in-DrawnMany.is)
