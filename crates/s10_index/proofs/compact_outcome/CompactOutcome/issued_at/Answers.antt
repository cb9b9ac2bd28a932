use Rattle.std.proofs.Common.{◌∙◌, ℕ, List, [], map, sym, ap}
use Rattle.std.specs.Prelude.{slice_get}
use Rattle.std.specs.Option.{option_map}
use Rattle.std.proofs.lemmas.Option.{get_or_from_slice_get, slice_get-map}
use Rattle.s10_core.specs.declared.id.Id.{Id}
use Rattle.s10_history.specs.Issues.{carried_by}
use Rattle.s10_index.specs.CompactOutcomes.{outcome_of}
use Rattle.s10_index.specs.declared.compact_outcome.CompactOutcome.{CompactOutcome}
use Rattle.s10_index.proofs.compact_outcome.CompactOutcome.issued_at.Goals as goal

pub returns-in-Some : goal.returns-in-Some
returns-in-Some c =
    let sheets = c.args.sheets.now.items in
    let at = c.args.at in
    let pair : Id → ℕ × Id = λ id. (c.in-DrawnMany.day, id) in
    sym (ap (λ (o : CompactOutcome). slice_get (carried_by (outcome_of sheets o)) at)
    c.in-DrawnMany.is
    ∙ ap (λ (l : List Id). slice_get (map pair l) at)
    (get_or_from_slice_get sheets c.in-DrawnMany.sheet c.at.result [] c.at.ensures)
    ∙ slice_get-map pair c.at.result at
    ∙ ap (option_map pair) (sym c.get.ensures ∙ c.in-Some.is))
