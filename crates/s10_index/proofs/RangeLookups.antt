-- The row of a range is among the rows of ranges, at the index of its number.
use Rattle.std.proofs.Common.{◌≡◌, ◌∙◌, ℕ, zero, suc, ◌+◌, pos, List, [], ◌∷◌, map, Some, sym, ap}
use Rattle.std.proofs.Common.{arith}
use Rattle.std.specs.Prelude.{Contains, slice_get}
use Rattle.std.proofs.lemmas.Option.{none-some, same_Some}
use Rattle.s10_history.specs.declared.entry.Entry.{Entry}
use Rattle.s10_history.specs.declared.range.Range.{Range}
use Rattle.s10_history.specs.History.{ranges_of}
use Rattle.s10_history.specs.Issues.{pick_of, issues_of}
use Rattle.s10_history.proofs.Numbering.{Numbered, numbered}
use Rattle.s10_rows.specs.declared.range_row.RangeRow.{RangeRow}
use Rattle.s10_rows.specs.Tables.{range_row, range_rows}
use Rattle.s10_index.proofs.SerialLookups.{at_index}

numbered_at : (f : Range → ℕ) (n : ℕ) (rs : List Range) → Numbered n rs → (k : ℕ) (row : RangeRow)
    → slice_get (map (λ r. range_row (f r) r) rs) k ≡ Some row → row.num ≡ pos (n + k)
numbered_at f n [] up k row at = absurd (none-some row at)
numbered_at f n (r ∷ rs) up zero row at =
    let none : n ≡ n + 0 = omega arith in
    ap (λ (x : RangeRow). x.num) (sym (same_Some _ row at)) ∙ ap pos (up.0 ∙ none)
numbered_at f n (r ∷ rs) up (suc k) row at =
    let shift : n + 1 + k ≡ n + suc k = omega arith in
    numbered_at f (n + 1) rs up.1 k row at ∙ ap pos shift

-- A row of the table is at the index of its number.
pub range_found : (h : List Entry) (row : RangeRow) → Contains (range_rows h) row → (place : ℕ)
    × (slice_get (range_rows h) place ≡ Some row) × (row.num ≡ pos (place + 1))
range_found h row among =
    let at = at_index (range_rows h) row among in
    let shift : 1 + at.0 ≡ at.0 + 1 = omega arith in (
      at.0,
      at.1,
      numbered_at (λ r. pick_of (issues_of h) r) 1 (ranges_of h) (numbered 1 h) at.0 row at.1
          ∙ ap pos shift,
    )
