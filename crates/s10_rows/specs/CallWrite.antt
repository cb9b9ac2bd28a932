-- Defines what kept calls write to the tables.
use Rattle.std.specs.Prelude.{◌≡◌, pos, List, [], ◌∷◌, ◌++◌, option_to_list}
use Rattle.s10_rows.specs.CallRow.{StoredCall}
use Rattle.s10_rows.specs.Tables.{Tables, HaveSameRows, closing}
use Rattle.s10_rows.specs.RowWrites.{FindAtMostOne, with_ranges, with_serials}
use Rattle.s10_rows.specs.declared.call_write.CallWrite.{CallWrite}

-- The row of the call.
abbrev pub row_written : CallWrite → StoredCall
row_written w = record {
  arrival = pos w.arrival;
  customer = pos w.entry.request.customer;
  number = pos w.entry.request.number;
  day = pos w.entry.day;
  reply = w.reply;
}

-- The tables after a call.
abbrev pub with_call : CallWrite → Tables → Tables
with_call w tables = record tables {
  calls = tables.calls ++ row_written w ∷ [];
  ranges = with_ranges w.ranges.items tables.ranges;
  serials = with_serials w.serials.items tables.serials;
  closed = tables.closed ++ option_to_list (closing w.arrival w.entry.request.body w.entry.outcome);
}

-- A call writes if it changes the tables before into those after, with rows of ranges and serials
-- in any order.
pub record Writes (w : CallWrite) (before after : Tables) : Type 0 where
  pub few : FindAtMostOne w.serials.items before.serials
  pub heads : after.heads ≡ before.heads
  pub calls : after.calls ≡ (with_call w before).calls
  pub ranges : HaveSameRows (with_call w before).ranges after.ranges
  pub serials : HaveSameRows (with_call w before).serials after.serials
  pub closed : after.closed ≡ (with_call w before).closed

-- The calls write, one after another.
unfoldable pub AreWritten : List CallWrite → Tables → Tables → Type 0
AreWritten [] before after = after ≡ before
AreWritten (w ∷ ws) before after = (between : Tables) × Writes w before between
    × AreWritten ws between after
