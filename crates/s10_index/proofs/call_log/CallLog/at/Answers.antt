use Rattle.std.proofs.Common.{◌∙◌, ◌<◌, Some, length, sym, ap, subst, arith}
use Rattle.std.specs.Prelude.{slice_get}
use Rattle.std.specs.Option.{option_map}
use Rattle.std.proofs.lemmas.List.{length-map}
use Rattle.std.proofs.lemmas.Option.{slice_get-map, get_or_from_slice_get}
use Rattle.s10_index.specs.CallLog.{CallList}
use Rattle.s10_index.specs.CompactOutcomes.{entry_of, NamesSheetOf}
use Rattle.s10_index.specs.declared.compact_call.CompactCall.{CompactCall}
use Rattle.s10_index.proofs.call_log.CallLog.at.Goals as goal

pub expand-requires : goal.expand-requires
expand-requires c =
    let inside = c.self.inside in
    let row = c.at.result in
    let within : c.args.place < length inside.rows.items =
    omega (
      arith,
      c.requires,
      ap (λ (calls : CallList). length calls.items) c.self.view_is,
      length-map inside.rows.items (entry_of inside.sheets.items),
    ) in
    subst (λ (r : CompactCall). NamesSheetOf (length inside.sheets.items) r.outcome)
    (get_or_from_slice_get inside.rows.items c.args.place row row c.at.ensures)
    (c.self.invariant.0 c.args.place row within)

pub returns : goal.returns
returns c =
    let inside = c.self.inside in
    let restored = entry_of inside.sheets.items in
    ap (λ (calls : CallList). slice_get calls.items c.args.place) (sym c.self.view_is)
    ∙ slice_get-map restored inside.rows.items c.args.place
    ∙ ap (option_map restored) c.at.ensures
    ∙ ap Some (sym c.expand.ensures)
