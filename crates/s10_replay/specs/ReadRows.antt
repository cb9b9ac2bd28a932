-- Defines what rows that were read say, even if the store fails.
use Rattle.std.specs.Prelude.{◌≡◌, ℕ, ◌+◌, ◌-◌, nat_le, pos, Bool, not, length, count_by, List}
use Rattle.std.specs.Ordering.{int_eq}
use Rattle.s10_wire.specs.Datagrams.{Replies}
use Rattle.s10_history.specs.declared.entry.Entry.{Entry}
use Rattle.s10_history.specs.declared.range.Range.{Range}
use Rattle.s10_history.specs.declared.issue.Issue.{Issue}
use Rattle.s10_history.specs.declared.usage.Usage.{Usage}
use Rattle.s10_rows.specs.declared.serial_row.SerialRow.{SerialRow}
use Rattle.s10_rows.specs.CallRow.{StoredCall}
use Rattle.s10_rows.specs.Tables.{flag}
use Rattle.s10_replay.specs.RightRows.{entry_of, day_in}
use Rattle.s10_rows.specs.Selected.{IsCall}

-- A row is the row of a call if its reply decodes to the call, and its day is that of the call.
pub record IsCallOf (row : StoredCall) (e : Entry) : Type 0 where
  pub entry : e ≡ entry_of row
  pub call : IsCall e
  pub replies : Replies row.reply e.request e.outcome
  pub day : row.day ≡ pos e.day

-- A row records an issue if each of its columns is that of the issue.
pub record IsRowOfIssue (row : SerialRow) (i : Issue) : Type 0 where
  pub day : row.day ≡ pos i.day
  pub voided : row.voided ≡ pos (flag i.voided)
  pub customer : row.customer ≡ pos i.customer
  pub number : row.number ≡ pos i.number

-- Whether the row is of a voided issue.
abbrev pub is_voided_row : SerialRow → Bool
is_voided_row row = int_eq row.voided (pos 1)

-- Whether the issue that the row records is too recent for its identifier to be issued on the day.
abbrev pub is_taken : ℕ → ℕ → SerialRow → Bool
is_taken day interval row = not (nat_le interval (day - day_in row.day))

-- The usage of a range by its rows: each row is of a used serial, and a serial is free unless its
-- row is too recent.
pub record IsUsageOf (rows : List SerialRow) (r : Range) (day interval : ℕ) (u : Usage) :
    Type 0 where
  pub used : u.used ≡ length rows
  pub voided : u.voided ≡ count_by is_voided_row rows
  pub free : u.free + count_by (is_taken day interval) rows ≡ r.last + 1 - r.first
