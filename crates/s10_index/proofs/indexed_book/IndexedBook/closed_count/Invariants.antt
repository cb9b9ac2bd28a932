use Rattle.std.proofs.Common.{◌≡◌, ◌+◌, ◌≤◌, length}
use Rattle.s10_rows.specs.Tables.{closed_rows}
use Rattle.s10_index.proofs.ClosedLookups.{count_from}
use Rattle.s10_index.proofs.indexed_book.IndexedBook.closed_count.Given as goal

-- The rows so far, at most one for each call, and those that follow are all.
abbrev pub invariant-loop-place : goal.invariant-loop-place
invariant-loop-place l = record {
  few : l.count ≤ l.place;
  whole : l.count + count_from l.self.index.entries.items l.place
      ≡ length (closed_rows l.self.index.entries.items);
}
