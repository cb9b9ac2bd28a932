-- Defines the rows of the five tables for a history.
use Rattle.std.specs.Prelude.{ℕ, ◌+◌, pos, Bool, if◌then◌else◌, List, [], ◌∷◌, ◌++◌, map}
use Rattle.std.specs.Prelude.{IsPermutation, Option, Some, None, option_to_list}
use Rattle.std.specs.Ordering.{int_cmp, ordering_then}
use Rattle.std.specs.declared.cmp.Ordering.{Ordering}
use Rattle.s10_core.specs.Pair.{pair_of}
use Rattle.s10_wire.specs.declared.body.Body.{Body}
use Rattle.s10_wire.specs.declared.body.Body.TheVariants.{Withdraw}
use Rattle.s10_wire.specs.declared.outcome.Outcome.{Outcome}
use Rattle.s10_wire.specs.declared.outcome.Outcome.TheVariants.{Withdrawn}
use Rattle.s10_history.specs.declared.entry.Entry.{Entry}
use Rattle.s10_history.specs.declared.range.Range.{Range}
use Rattle.s10_history.specs.declared.issuance.Issuance.{Issuance}
use Rattle.s10_history.specs.Settings.{Terms}
use Rattle.s10_history.specs.History.{ranges_of}
use Rattle.s10_history.specs.Issues.{issues_of, last_issues, voided_after, pick_of}
use Rattle.s10_rows.specs.declared.head_row.HeadRow.{HeadRow}
use Rattle.s10_rows.specs.declared.range_row.RangeRow.{RangeRow}
use Rattle.s10_rows.specs.declared.serial_row.SerialRow.{SerialRow}
use Rattle.s10_rows.specs.declared.closed_row.ClosedRow.{ClosedRow}
use Rattle.s10_rows.specs.CallRow.{StoredCall}
use Rattle.s10_wire.specs.Replies.{reply_bytes}

-- The rows of the five tables.
pub record Tables : Type 0 where
  pub heads : List HeadRow
  pub calls : List StoredCall
  pub ranges : List RangeRow
  pub serials : List SerialRow
  pub closed : List ClosedRow

-- Two lists have the same rows, in any order.
abbrev pub HaveSameRows : {R : Type 0} → List R → List R → Type 0
HaveSameRows rows others = ∥ IsPermutation rows others ∥₁

-- How two rows of serials compare: by pair, then by serial.
abbrev pub serial_row_cmp : SerialRow → SerialRow → Ordering
serial_row_cmp a b = ordering_then (int_cmp a.pair b.pair) (int_cmp a.serial b.serial)

-- The one row of head: schema 1, and the settings.
abbrev pub head_row : Terms → HeadRow
head_row t = record { one = pos 1; schema = pos 1; interval = pos t.interval; cap = pos t.limit }

-- The row of the call with that arrival.
abbrev pub call_row : ℕ → Entry → StoredCall
call_row arrival e = record {
  arrival = pos arrival;
  customer = pos e.request.customer;
  number = pos e.request.number;
  day = pos e.day;
  reply = reply_bytes e.request e.outcome;
}

-- The rows of the calls, with arrivals that begin at the given one.
abbrev pub call_rows_from : ℕ → List Entry → List StoredCall
call_rows_from arrival [] = []
call_rows_from arrival (e ∷ es) = call_row arrival e ∷ call_rows_from (arrival + 1) es

-- The rows of the calls of a history.
abbrev pub call_rows : List Entry → List StoredCall
call_rows h = call_rows_from 1 h

-- The row of a range with that mark.
abbrev pub range_row : ℕ → Range → RangeRow
range_row mark r = record {
  num = pos r.num;
  holder = pos r.holder;
  pair = pos (pair_of r.service r.country);
  low = pos r.first;
  high = pos r.last;
  mark = pos mark;
}

-- The rows of the ranges, in order of their numbers, each with its pick as the mark.
abbrev pub range_rows : List Entry → List RangeRow
range_rows h = map (λ r. range_row (pick_of (issues_of h) r) r) (ranges_of h)

-- 1 if it is true, otherwise 0.
abbrev pub flag : Bool → ℕ
flag voided = if voided then 1 else 0

-- The row of an identifier at an issuance.
abbrev pub serial_row : Bool → Issuance → SerialRow
serial_row voided i = record {
  pair = pos (pair_of i.id.service i.id.country);
  serial = pos i.id.serial;
  arrival = pos i.arrival;
  day = pos i.day;
  customer = pos i.customer;
  number = pos i.number;
  voided = pos (flag voided);
}

-- One row per identifier that was ever issued.
abbrev pub serial_rows : List Entry → List SerialRow
serial_rows h = map (λ i. serial_row (voided_after i.arrival h i.id) i) (last_issues (issues_of h))

-- The row of closed that a call with that arrival, body and outcome adds.
abbrev pub closing : ℕ → Body → Outcome → Option ClosedRow
closing arrival (Withdraw range) Withdrawn =
    Some (record { num = pos range; arrival = pos arrival })
closing arrival body outcome = None

-- The rows of closed that the calls add, with arrivals that begin at the given one.
abbrev pub closed_rows_from : ℕ → List Entry → List ClosedRow
closed_rows_from arrival [] = []
closed_rows_from arrival (e ∷ es) = option_to_list (closing arrival e.request.body e.outcome)
    ++ closed_rows_from (arrival + 1) es

-- The rows of the closed ranges, in order of the calls that closed them.
abbrev pub closed_rows : List Entry → List ClosedRow
closed_rows h = closed_rows_from 1 h

-- The tables of a history.
abbrev pub tables_of : List Entry → Terms → Tables
tables_of h t = record {
  heads = head_row t ∷ [];
  calls = call_rows h;
  ranges = range_rows h;
  serials = serial_rows h;
  closed = closed_rows h;
}

-- Five empty tables.
abbrev pub no_rows : Tables
no_rows = record { heads = []; calls = []; ranges = []; serials = []; closed = [] }
