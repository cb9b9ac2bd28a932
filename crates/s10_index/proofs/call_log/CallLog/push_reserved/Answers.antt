use Rattle.std.proofs.Common.{◌≡◌, ◌∙◌, ◌+◌, ◌++◌, ◌∷◌, [], length, ap, arith, length-append}
use Rattle.std.proofs.lemmas.List.{length-map}
use Rattle.s10_index.specs.CallLog.{CallList}
use Rattle.s10_index.specs.CompactOutcomes.{sheet_of, entry_of}
use Rattle.s10_index.proofs.Sheets.{calls-push, named-push, one_sheet}
use Rattle.s10_index.proofs.call_log.CallLog.push_reserved.Goals as goal

pub invariant_of-self : goal.invariant_of-self
invariant_of-self c =
    let was = c.self.inside in
    let sheets : length c.of-row.new.sheets.items ≡ length was.sheets.items + length
    (sheet_of c.args.entry.outcome) =
    ap length c.of-row.ensures.sheets ∙ length-append was.sheets.items
    (sheet_of c.args.entry.outcome) in
    let rows : length c.push_reserved.new.self.items ≡ length was.rows.items + 1 =
    ap length c.push_reserved.ensures.items ∙ length-append was.rows.items (c.of-row.result ∷ []) in
    let one = one_sheet c.args.entry.outcome in (
      named-push (length was.sheets.items) _ was.rows.items _ c.of-row.result
          (omega (arith, sheets))
          c.push_reserved.ensures.items c.self.invariant.0 c.of-row.ensures.named,
      omega (arith, sheets, rows, one, c.self.invariant.1),
      omega (
        arith,
        rows,
        c.requires.few,
        ap (λ (calls : CallList). length calls.items) c.self.view_is,
        length-map was.rows.items (entry_of was.sheets.items),
      ),
    )

pub returns : goal.returns
returns c =
    let e = c.args.entry in
    let was = c.self.inside in
    calls-push was.sheets.items (sheet_of e.outcome) c.of-row.new.sheets.items was.rows.items
    c.push_reserved.new.self.items c.of-row.result e
    c.of-row.ensures.sheets c.push_reserved.ensures.items c.self.invariant.0 c.of-row.ensures.restored
    ∙ ap (λ (calls : CallList). calls.items ++ e ∷ []) c.self.view_is
