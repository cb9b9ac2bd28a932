-- Defines which rows of calls are right, and the calls that they keep.
use Rattle.std.specs.Prelude.{◌≡◌, ℕ, ◌+◌, ◌^◌, ◌<◌, ℤ, pos, negsuc, List, length, map, take}
use Rattle.std.specs.Prelude.{slice_get, Some}
use Rattle.s10_wire.specs.Datagrams.{Replies}
use Rattle.s10_history.specs.declared.entry.Entry.{Entry}
use Rattle.s10_history.specs.Settings.{Terms}
use Rattle.s10_book.specs.Rules.{MayFollow}
use Rattle.s10_rows.specs.CallRow.{StoredCall}
use Rattle.s10_wire.specs.Replies.{request_in, outcome_in}

-- The day in a column: 0 if the column is negative.
abbrev pub day_in : ℤ → ℕ
day_in (pos day) = day
day_in (negsuc _) = 0

-- The call of a row.
abbrev pub entry_of : StoredCall → Entry
entry_of row = record {
  request = request_in row.reply;
  day = day_in row.day;
  outcome = outcome_in row.reply;
}

-- A row is right after the calls before it if its arrival is the next and its reply decodes, its
-- key columns are those of the request, and its day is a number of 32 bits. The call must also be
-- one that may follow: its key is new, its day does not fall, the limit is not reached, and its
-- outcome is that of the rules.
pub record IsRightRow (t : Terms) (before : List Entry) (row : StoredCall) : Type 0 where
  pub arrival : row.arrival ≡ pos (length before + 1)
  pub replies : Replies row.reply (entry_of row).request (entry_of row).outcome
  pub customer : row.customer ≡ pos (entry_of row).request.customer
  pub number : row.number ≡ pos (entry_of row).request.number
  pub day : row.day ≡ pos (entry_of row).day
  pub day_fits : (entry_of row).day < 2 ^ 32
  pub follows : MayFollow before t (entry_of row)

-- The calls that the rows keep, if all rows are right.
abbrev pub kept_of : List StoredCall → List Entry
kept_of rows = map entry_of rows

-- Each row is right after those before it.
abbrev pub AreRight : Terms → List StoredCall → Type 0
AreRight t rows = (k : ℕ) (row : StoredCall) → slice_get rows k ≡ Some row
    → IsRightRow t (kept_of (take k rows)) row

-- The rows were executed again: each is right, and these calls are kept.
pub record HasReplayed (t : Terms) (rows : List StoredCall) (kept : List Entry) : Type 0 where
  pub right : AreRight t rows
  pub history : kept ≡ kept_of rows
