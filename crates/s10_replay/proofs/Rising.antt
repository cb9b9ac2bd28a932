-- The rows of ranges and of calls rise by their keys.
use Rattle.std.proofs.Common.{◌≡◌, ℕ, ◌+◌, ◌<◌, cond, ltb, false, pos, List, [], ◌∷◌, map, ap}
use Rattle.std.proofs.Common.{is_eq, arith}
use Rattle.std.specs.List.{AllByRecursion}
use Rattle.std.specs.Ordering.{int_cmp}
use Rattle.std.specs.declared.cmp.Ordering.TheVariants.{Less, Equal, Greater}
use Rattle.std.proofs.lemmas.Bool.{lt-ltb}
use Rattle.s10_replay.specs.Ascending.{IsAscending}
use Rattle.s10_replay.proofs.Compared.{ascending_weaker}
use Rattle.s10_history.specs.declared.entry.Entry.{Entry}
use Rattle.s10_history.specs.declared.range.Range.{Range}
use Rattle.s10_history.specs.History.{ranges_of}
use Rattle.s10_history.specs.Issues.{issues_of, pick_of}
use Rattle.s10_history.proofs.Numbering.{Numbered, numbered}
use Rattle.s10_rows.specs.declared.range_row.RangeRow.{RangeRow}
use Rattle.s10_rows.specs.CallRow.{StoredCall}
use Rattle.s10_rows.specs.Tables.{range_row, range_rows, call_rows_from, call_rows}

less : (a b : ℕ) → a < b → int_cmp (pos a) (pos b) ≡ Less
less a b lt = ap (λ t. cond t Less (cond (ltb b a) Greater Equal)) (lt-ltb a b lt)

ranges_above : (f : Range → ℕ) (m n : ℕ) (rs : List Range) → m < n → Numbered n rs
    → AllByRecursion (λ (row : RangeRow). int_cmp (pos m) row.num ≡ Less)
    (map (λ r. range_row (f r) r) rs)
ranges_above f m n [] lt up = tt
ranges_above f m n (r ∷ rs) lt up = (
  less m r.num (omega (arith, up.0)),
  ranges_above f m (n + 1) rs (omega arith) up.1,
)

ranges_rise : (f : Range → ℕ) (n : ℕ) (rs : List Range) → Numbered n rs
    → IsAscending (λ (a b : RangeRow). int_cmp a.num b.num ≡ Less) (map (λ r. range_row (f r) r) rs)
ranges_rise f n [] up = tt
ranges_rise f n (r ∷ rs) up = (
  ranges_above f r.num (n + 1) rs (omega (arith, up.0)) up.1,
  ranges_rise f (n + 1) rs up.1,
)

-- The rows of ranges rise by number.
pub range_rows_rise : (h : List Entry) → IsAscending (λ (a b : RangeRow). int_cmp a.num b.num
    ≡ Less) (range_rows h)
range_rows_rise h = ranges_rise (λ r. pick_of (issues_of h) r) 1 (ranges_of h) (numbered 1 h)

calls_above : (m n : ℕ) (es : List Entry) → m < n
    → AllByRecursion (λ (row : StoredCall). int_cmp (pos m) row.arrival ≡ Less)
    (call_rows_from n es)
calls_above m n [] lt = tt
calls_above m n (e ∷ es) lt = (less m n lt, calls_above m (n + 1) es (omega arith))

calls_rise : (n : ℕ) (es : List Entry)
    → IsAscending (λ (a b : StoredCall). int_cmp a.arrival b.arrival ≡ Less) (call_rows_from n es)
calls_rise n [] = tt
calls_rise n (e ∷ es) = (calls_above n (n + 1) es (omega arith), calls_rise (n + 1) es)

-- The rows of calls rise by arrival.
pub call_rows_rise : (h : List Entry)
    → IsAscending (λ (a b : StoredCall). int_cmp a.arrival b.arrival ≡ Less) (call_rows h)
call_rows_rise h = calls_rise 1 h

-- No two rows of ranges have the same number.
pub range_rows_apart : (h : List Entry)
    → IsAscending (λ (a b : RangeRow). is_eq (int_cmp a.num b.num) ≡ false) (range_rows h)
range_rows_apart h = ascending_weaker _ _ (λ a b less. ap is_eq less) (range_rows h)
    (range_rows_rise h)
