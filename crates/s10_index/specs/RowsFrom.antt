-- Defines rows of a ledger's tables: that of an identifier, and that which a call adds to closed.
use Rattle.std.specs.Prelude.{ℕ, ◌+◌, List, Option, slice_get}
use Rattle.std.specs.Option.{option_map, option_and_then}
use Rattle.s10_core.specs.declared.id.Id.{Id}
use Rattle.s10_history.specs.declared.entry.Entry.{Entry}
use Rattle.s10_history.specs.Issues.{issues_of, voided_after, last_issuance_of}
use Rattle.s10_rows.specs.declared.closed_row.ClosedRow.{ClosedRow}
use Rattle.s10_rows.specs.declared.serial_row.SerialRow.{SerialRow}
use Rattle.s10_rows.specs.Tables.{closing, serial_row}

-- The row of the identifier, if it was ever issued.
abbrev pub serial_row_of : List Entry → Id → Option SerialRow
serial_row_of h x = option_map (λ i. serial_row (voided_after i.arrival h x) i)
    (last_issuance_of (issues_of h) x)

-- The row of closed that the call at that index, from 0, adds.
abbrev pub closed_row_of : List Entry → ℕ → Option ClosedRow
closed_row_of h place = option_and_then (λ e. closing (place + 1) e.request.body e.outcome)
    (slice_get h place)
