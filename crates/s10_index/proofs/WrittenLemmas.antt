-- A call writes the rows that the longer history has in addition.
use Rattle.std.proofs.Common.{◌≡◌, ℕ, ◌+◌, List, [], ◌∷◌, ◌++◌, length, refl, sym, ap, ◌∙◌, arith}
use Rattle.std.proofs.Common.{append-nil, append_assoc}
use Rattle.std.specs.Prelude.{option_to_list}
use Rattle.s10_history.specs.declared.entry.Entry.{Entry}
use Rattle.s10_history.specs.Settings.{Terms}
use Rattle.s10_rows.specs.declared.closed_row.ClosedRow.{ClosedRow}
use Rattle.s10_rows.specs.declared.call_write.CallWrite.{CallWrite}
use Rattle.s10_rows.specs.CallWrite.{Writes, row_written}
use Rattle.s10_wire.specs.Replies.{reply_bytes}
use Rattle.s10_rows.specs.Tables.{tables_of, call_row, call_rows_from, call_rows, closing}
use Rattle.s10_rows.specs.Tables.{closed_rows_from, closed_rows}
use Rattle.s10_rows.specs.RowWrites.{MakesWrites}

call_rows_more : (at : ℕ) (h : List Entry) (e : Entry) → call_rows_from at (h ++ e ∷ [])
    ≡ call_rows_from at h ++ call_row (at + length h) e ∷ []
call_rows_more at [] e = ap (λ n. call_row n e ∷ []) (omega arith)
call_rows_more at (d ∷ h) e =
    ap (λ l. call_row at d ∷ l) (call_rows_more (at + 1) h e
    ∙ ap (λ n. call_rows_from (at + 1) h ++ call_row n e ∷ []) (omega arith))

closed_rows_more : (at : ℕ) (h : List Entry) (e : Entry) → closed_rows_from at (h ++ e ∷ [])
    ≡ closed_rows_from at h ++ option_to_list (closing (at + length h) e.request.body e.outcome)
closed_rows_more at [] e =
    append-nil (option_to_list (closing at e.request.body e.outcome))
    ∙ ap (λ n. option_to_list (closing n e.request.body e.outcome)) (omega arith)
closed_rows_more at (d ∷ h) e =
    let front : List ClosedRow = option_to_list (closing at d.request.body d.outcome) in
    ap (λ l. front ++ l) (closed_rows_more (at + 1) h e
    ∙ ap (λ n. closed_rows_from (at + 1) h ++ option_to_list
    (closing n e.request.body e.outcome)) (omega arith))
    ∙ sym (append_assoc front (closed_rows_from (at + 1) h)
    (option_to_list (closing (at + length (d ∷ h)) e.request.body e.outcome)))

row_is : (n : ℕ) (w : CallWrite) → w.arrival ≡ n → w.reply ≡ reply_bytes w.entry.request
    w.entry.outcome → row_written w ≡ call_row n w.entry
row_is n w p q = cc

-- What a call writes after a history makes its tables into those of the longer history.
pub writes_call : (h : List Entry) (t : Terms) (w : CallWrite) → w.arrival ≡ length h + 1
    → w.reply ≡ reply_bytes w.entry.request w.entry.outcome → MakesWrites h w.entry w.ranges.items
    w.serials.items
    → Writes w (tables_of h t) (tables_of (h ++ w.entry ∷ []) t)
writes_call h t w at reply makes = record {
  few = makes.few;
  heads = refl;
  calls = call_rows_more 1 h w.entry
      ∙ sym (ap (λ c. call_rows h ++ c ∷ []) (row_is (length h + 1) w at reply
      ∙ ap (λ n. call_row n w.entry) (omega arith)));
  ranges = makes.ranges;
  serials = makes.serials;
  closed = closed_rows_more 1 h w.entry
      ∙ sym (ap (λ n. closed_rows h ++ option_to_list
      (closing n w.entry.request.body w.entry.outcome)) (omega (arith, at)));
}
