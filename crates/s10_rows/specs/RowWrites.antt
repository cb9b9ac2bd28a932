-- Defines the writes of a call to the rows of ranges and serials.
use Rattle.std.specs.Prelude.{◌≡◌, ⊤, ℕ, ◌+◌, ◌≤◌, ℤ, Bool, not, ◌&&◌, if◌then◌else◌, List, [], ◌∷◌}
use Rattle.std.specs.Prelude.{◌++◌, map, length, filter, take}
use Rattle.std.specs.Ordering.{int_eq}
use Rattle.s10_history.specs.declared.entry.Entry.{Entry}
use Rattle.s10_history.specs.declared.issuance.Issuance.{Issuance}
use Rattle.s10_history.specs.History.{ranges_of}
use Rattle.s10_history.specs.Issues.{issues_at, issues_of, last_issues, voided_after, pick_of}
use Rattle.s10_rows.specs.declared.prior_issue.PriorIssue.{PriorIssue}
use Rattle.s10_rows.specs.declared.prior_issue.PriorIssue.TheVariants.{Never, Before}
use Rattle.s10_rows.specs.declared.range_row.RangeRow.{RangeRow}
use Rattle.s10_rows.specs.declared.range_write.RangeWrite.{RangeWrite}
use Rattle.s10_rows.specs.declared.range_write.RangeWrite.TheVariants.{New as NewRange, Mark}
use Rattle.s10_rows.specs.declared.serial_row.SerialRow.{SerialRow}
use Rattle.s10_rows.specs.declared.serial_write.SerialWrite.{SerialWrite}
use Rattle.s10_rows.specs.declared.serial_write.SerialWrite.TheVariants.{New as NewSerial, Again}
use Rattle.s10_rows.specs.Tables.{HaveSameRows, range_row, range_rows, serial_row, serial_rows}

-- Whether the row is that of the range with that number.
abbrev pub has_num : ℤ → RangeRow → Bool
has_num num r = int_eq r.num num

-- The row, with that mark if it is the row of the range with that number.
abbrev pub marked : ℤ → ℤ → RangeRow → RangeRow
marked num mark r = if has_num num r then record r { mark = mark } else r

-- Whether the row is that of the identifier with that pair and serial.
abbrev pub is_at : ℤ → ℤ → SerialRow → Bool
is_at pair serial r = int_eq r.pair pair && int_eq r.serial serial

-- The rows after one write to ranges.
abbrev pub with_range : RangeWrite → List RangeRow → List RangeRow
with_range (NewRange row) rows = rows ++ row ∷ []
with_range (Mark num mark) rows = map (marked num mark) rows

-- The rows after one write to serials.
abbrev pub with_serial : SerialWrite → List SerialRow → List SerialRow
with_serial (NewSerial row) rows = rows ++ row ∷ []
with_serial (Again row) rows = filter (λ r. not (is_at row.pair row.serial r)) rows ++ row ∷ []

-- The rows after the writes to ranges, applied in order.
abbrev pub with_ranges : List RangeWrite → List RangeRow → List RangeRow
with_ranges [] rows = rows
with_ranges (w ∷ ws) rows = with_ranges ws (with_range w rows)

-- The rows after the writes to serials, applied in order.
abbrev pub with_serials : List SerialWrite → List SerialRow → List SerialRow
with_serials [] rows = rows
with_serials (w ∷ ws) rows = with_serials ws (with_serial w rows)

-- The row that is written.
abbrev pub row_of : SerialWrite → SerialRow
row_of (NewSerial row) = row
row_of (Again row) = row

-- Each write finds at most one row of its identifier among the rows that the writes before it
-- leave.
abbrev pub FindAtMostOne : List SerialWrite → List SerialRow → Type 0
FindAtMostOne [] rows = ⊤
FindAtMostOne (w ∷ ws) rows = (length (filter (is_at (row_of w).pair (row_of w).serial) rows) ≤ 1)
    × FindAtMostOne ws (with_serial w rows)

-- The write of an issuance, by whether its identifier was issued before.
abbrev pub write_of : PriorIssue → SerialRow → SerialWrite
write_of Never row = NewSerial row
write_of Before row = Again row

-- The issuances of a history, followed by the first n (place) of the call after it.
abbrev pub issues_before : ℕ → List Entry → Entry → List Issuance
issues_before place h e = issues_of h ++ take place (issues_at (1 + length h) e)

-- The writes make the rows after the first n (place) issuances of the call out of the rows of the
-- history.
pub record IssueWritesMake (h : List Entry) (e : Entry) (place : ℕ) (made_ranges : List RangeWrite)
    (made_serials : List SerialWrite) : Type 0 where
  pub ranges : with_ranges made_ranges (range_rows h)
      ≡ map (λ r. range_row (pick_of (issues_before place h e) r) r) (ranges_of h)
  pub serials : with_serials made_serials (serial_rows h)
      ≡ map (λ i. serial_row (voided_after i.arrival h i.id) i)
      (last_issues (issues_before place h e))
  pub few : FindAtMostOne made_serials (serial_rows h)

-- The writes make the rows after the call out of the rows of the history.
pub record MakesWrites (h : List Entry) (e : Entry) (made_ranges : List RangeWrite)
    (made_serials : List SerialWrite) : Type 0 where
  pub ranges : HaveSameRows (with_ranges made_ranges (range_rows h)) (range_rows (h ++ e ∷ []))
  pub serials : HaveSameRows (with_serials made_serials (serial_rows h)) (serial_rows (h ++ e ∷ []))
  pub few : FindAtMostOne made_serials (serial_rows h)
